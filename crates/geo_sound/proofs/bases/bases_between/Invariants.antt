use Rattle.std.proofs.Common.{◌≡◌, ◌+◌, length}
use Rattle.geo_sound.specs.Drawn.{rings_of}
use Rattle.geo_sound.specs.Bases.{AreBases}
use Rattle.geo_sound.proofs.bases.bases_between.Given as goal

abbrev pub invariant-loop-edge : goal.invariant-loop-edge
invariant-loop-edge l = record {
  count : l.from + length l.bases.items ≡ l.edge;
  bases_are : AreBases (rings_of l.polygons) l.from l.bases.items;
}
