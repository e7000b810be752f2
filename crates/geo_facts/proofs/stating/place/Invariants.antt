use Rattle.std.proofs.Common.{take}
use Rattle.std.specs.List.{AllZip}
use Rattle.geo_facts.specs.Pieces.{IsPlaced}
use Rattle.geo_facts.proofs.stating.place.Given as goal

abbrev pub invariant-loop-at : goal.invariant-loop-at
invariant-loop-at l = AllZip (IsPlaced l.net.nodes l.net.names) (take l.at l.polygons) l.placed.items
