use Rattle.std.proofs.Common.{◌≡◌, length, map, take}
use Rattle.std.specs.String.{string_bytes}
use Rattle.geo_facts.specs.PolygonFile.{named_ring, names_of}
use Rattle.geo_sound.proofs.scenes.names_of.Given as goal

abbrev pub invariant-loop-polygon : goal.invariant-loop-polygon
invariant-loop-polygon l = record {
  names : map string_bytes l.names.items ≡ names_of
      (map named_ring (take l.polygon-index l.polygons));
  count : length l.names.items ≡ l.polygon-index;
}
