use Rattle.de9im.specs.Scans.{IsEdgeUnderWay}
use Rattle.poly_exact.specs.Rects.{block_start}
use Rattle.de9im.proofs.scans.scan_edge.Given as goal

abbrev pub invariant-loop-block : goal.invariant-loop-block
invariant-loop-block l = IsEdgeUnderWay l.fn.start l.found l.a.vertices.now l.b.vertices.now l.e (block_start l.b.vertices.now l.block)
