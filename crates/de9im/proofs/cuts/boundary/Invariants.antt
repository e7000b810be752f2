use Rattle.de9im.specs.Cuts.{IsBoundaryTo}
use Rattle.de9im.proofs.cuts.boundary.Given as goal

abbrev pub invariant-loop-e : goal.invariant-loop-e
invariant-loop-e l = IsBoundaryTo l.sight l.a.vertices.now l.b.vertices.now l.e
