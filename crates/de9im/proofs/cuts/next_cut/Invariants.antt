use Rattle.de9im.specs.Cuts.{IsNextTo}
use Rattle.poly_exact.specs.Rects.{block_start}
use Rattle.de9im.proofs.cuts.next_cut.Given as goal

abbrev pub invariant-loop-block : goal.invariant-loop-block
invariant-loop-block l = IsNextTo l.best l.a l.b l.from l.ring.vertices.now (block_start l.ring.vertices.now l.block)
