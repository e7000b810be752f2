use Rattle.poly_exact.specs.Checks.{AreGoodTo}
use Rattle.poly_exact.proofs.checks.check_block.Given as goal

abbrev pub invariant-loop-f : goal.invariant-loop-f
invariant-loop-f l = AreGoodTo l.vs l.e l.f
