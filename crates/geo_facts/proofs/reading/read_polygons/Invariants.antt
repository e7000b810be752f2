use Rattle.std.proofs.Common.{◌≤◌, List, length, map}
use Rattle.calculus_table.specs.Calculus.{AreDistinct}
use Rattle.qsr_lex.specs.declared.TheConstants.{MAX_TEXT}
use Rattle.geo_facts.specs.PolygonFile.{NamedRing, named_ring, names_of, HavePolygons, HaveFault, IsFileOf, IsFileFault}
use Rattle.geo_facts.specs.declared.TheConstants.{MAX_POLYGONS}
use Rattle.geo_facts.specs.declared.fault.GeoFault.{GeoFault}
use Rattle.geo_facts.proofs.ReadLines.{AreWithin}
use Rattle.geo_facts.proofs.reading.read_polygons.Given as goal

abbrev pub decreases-loop-line : goal.decreases-loop-line
decreases-loop-line l = length l.lines.lines

abbrev pub invariant-loop-line : goal.invariant-loop-line
invariant-loop-line l = record {
  told : (all : List NamedRing) → HavePolygons l.lines.end l.lines.lines all (map named_ring l.polygons.items) → IsFileOf l.fn.bytes all;
  fault : (f : GeoFault) → HaveFault l.lines.end l.lines.lines f (map named_ring l.polygons.items) → IsFileFault l.fn.bytes f;
  distinct : AreDistinct (names_of (map named_ring l.polygons.items));
  few : length l.polygons.items ≤ MAX_POLYGONS;
  within : AreWithin MAX_TEXT l.lines.lines;
}
