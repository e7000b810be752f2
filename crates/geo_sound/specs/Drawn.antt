-- The base relations of drawn rings, in edge order.
use Rattle.std.specs.Prelude.{◌≡◌, ℕ, ◌^◌, ◌<◌, List, [], length, map, slice_index, slice_index_or}
use Rattle.poly_exact.specs.declared.points.Point.{Point}
use Rattle.network_words.specs.Edge.{edge_count, edge_at}
use Rattle.geo_facts.specs.Facts.{IsRcc8}
use Rattle.geo_facts.specs.declared.polygon.Polygon.{Polygon}

-- ring number i
abbrev pub ring_at : List (List Point) → ℕ → List Point
ring_at rings i = slice_index_or rings i []

abbrev pub ring_of : Polygon → List Point
ring_of p = p.ring

abbrev pub rings_of : List Polygon → List (List Point)
rings_of polygons = map ring_of polygons

-- for each two rings the number of the base relation of RCC-8 that their matrix says, in edge order
pub record AreRelations (rings : List (List Point)) (relations : List ℕ) : Type 0 where
  pub length_is : length relations ≡ edge_count (length rings)
  pub each : (i j : ℕ) → i < j → j < length rings →
      IsRcc8 (ring_at rings i) (ring_at rings j) (2 ^ slice_index relations (edge_at (length rings) i j))
