use Rattle.poly_exact.specs.Checks.{AreAllGoodTo}
use Rattle.poly_exact.proofs.checks.check.Given as goal

abbrev pub invariant-loop-e : goal.invariant-loop-e
invariant-loop-e l = AreAllGoodTo l.vs l.e
