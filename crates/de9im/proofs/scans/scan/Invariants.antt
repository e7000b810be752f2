use Rattle.de9im.specs.Scans.{IsUnderWay}
use Rattle.de9im.proofs.scans.scan.Given as goal

abbrev pub invariant-loop-e : goal.invariant-loop-e
invariant-loop-e l = IsUnderWay l.found l.a.vertices.now l.b.vertices.now l.e
