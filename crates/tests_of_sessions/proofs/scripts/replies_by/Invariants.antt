use Rattle.std.proofs.Common.{◌≡◌}
use Rattle.tests_of_sessions.proofs.scripts.replies_by.Given as goal

abbrev pub invariant-loop-batch : goal.invariant-loop-batch
invariant-loop-batch g l = l.store.calculus ≡ l.fn.store.calculus
