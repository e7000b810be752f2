use Rattle.de9im.specs.Scans.{IsEdgeUnderWay}
use Rattle.de9im.proofs.scans.scan_block.Given as goal

abbrev pub invariant-loop-f : goal.invariant-loop-f
invariant-loop-f l = IsEdgeUnderWay l.fn.start l.found l.a.vertices.now l.b.vertices.now l.e l.f
