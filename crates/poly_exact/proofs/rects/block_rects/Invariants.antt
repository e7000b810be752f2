use Rattle.poly_exact.specs.Rects.{AreBlocksTo}
use Rattle.poly_exact.proofs.rects.block_rects.Given as goal

abbrev pub invariant-loop-b : goal.invariant-loop-b
invariant-loop-b l = AreBlocksTo l.rects.items l.vs l.b
