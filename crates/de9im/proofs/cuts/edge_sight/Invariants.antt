use Rattle.de9im.specs.Cuts.{IsSightTo}
use Rattle.poly_exact.specs.Rects.{block_start}
use Rattle.de9im.proofs.cuts.edge_sight.Given as goal

abbrev pub invariant-loop-block : goal.invariant-loop-block
invariant-loop-block l = IsSightTo l.sight l.a l.b l.ring.vertices.now (block_start l.ring.vertices.now l.block)
