-- The lines so far have their sets.
use Rattle.session_phase.specs.Phase.{steps_of}
use Rattle.session_run.proofs.Back.{AreBack}
use Rattle.session_run.proofs.dealing.sets_shown.Given as goal

abbrev pub invariant-loop-line : goal.invariant-loop-line
invariant-loop-line l = AreBack l.batch.lines (steps_of l.sessions) l.line-index l.taken.items l.shown.items
