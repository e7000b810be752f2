-- The lines so far are dealt.
use Rattle.std.proofs.Common.{take}
use Rattle.session_phase.specs.Phase.{asked_of, steps_of}
use Rattle.session_run.specs.Steps.{AreDealt}
use Rattle.session_run.proofs.dealing.deal.Given as goal

abbrev pub invariant-loop-place : goal.invariant-loop-place
invariant-loop-place l =
    AreDealt (record { sessions = l.batch.sessions; lines = take l.place l.batch.lines }) (asked_of (steps_of l.sessions.items))
