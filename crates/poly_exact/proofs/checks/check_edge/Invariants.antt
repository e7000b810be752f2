use Rattle.poly_exact.specs.Checks.{AreGoodTo}
use Rattle.poly_exact.specs.Rects.{block_start}
use Rattle.poly_exact.proofs.checks.check_edge.Given as goal

abbrev pub invariant-loop-b : goal.invariant-loop-b
invariant-loop-b l = AreGoodTo l.vs l.e (block_start l.vs l.b)
