-- As many sessions without steps as the loop has come to.
use Rattle.std.proofs.Common.{◌≡◌, replicate, []}
use Rattle.session_phase.specs.Phase.{asked_of, steps_of}
use Rattle.session_run.proofs.dealing.no_steps.Given as goal

abbrev pub invariant-loop : goal.invariant-loop
invariant-loop l = asked_of (steps_of l.sessions.items) ≡ replicate l.counter []
