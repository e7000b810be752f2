-- How the relations are computed: edge by edge.
use Rattle.std.specs.Prelude.{◌≡◌, ℕ, ◌+◌, ◌-◌, ◌*◌, ◌^◌, ◌<◌, ◌≤◌, min, List, [], ◌∷◌, ◌++◌, length, slice_index}
use Rattle.std.specs.Prelude.{Result, Ok, Err, Vec}
use Rattle.std.specs.Global.{Global}
use Rattle.calculus_table.specs.declared.Memory.{Memory}
use Rattle.poly_exact.specs.declared.points.Point.{Point}
use Rattle.poly_exact.specs.Rings.{IsSimple}
use Rattle.network_words.specs.Edge.{edge_count, edge_at}
use Rattle.geo_facts.specs.Facts.{IsRcc8}
use Rattle.geo_sound.specs.Drawn.{ring_at}

-- a simple ring with a vertex
pub record IsRegion (vs : List Point) : Type 0 where
  pub simple : IsSimple vs
  pub some : 0 < length vs

-- the number of the base relation of two rings
pub record IsBaseOf (vs ws : List Point) (base : ℕ) : Type 0 where
  pub first : IsRegion vs
  pub second : IsRegion ws
  pub relation : IsRcc8 vs ws (2 ^ base)

-- the edge between these two of n nodes has the number e
pub record IsEdge (n e first second : ℕ) : Type 0 where
  pub order : first < second
  pub below : second < n
  pub number : edge_at n first second ≡ e

-- the number of the base relation of the two rings of edge number e
pub record IsBaseAt (rings : List (List Point)) (e base : ℕ) : Type 0 where
  pub first : ℕ
  pub second : ℕ
  pub edge : IsEdge (length rings) e first second
  pub is : IsBaseOf (ring_at rings first) (ring_at rings second) base

-- those of the edges from number `from` on
pub record AreBases (rings : List (List Point)) (from : ℕ) (bases : List ℕ) : Type 0 where
  pub each : (d : ℕ) → d < length bases → IsBaseAt rings (from + d) (slice_index bases d)

-- piece number k of this size, the last of which may be shorter
pub record IsPiece (rings : List (List Point)) (edges size k : ℕ) (bases : List ℕ) : Type 0 where
  pub starts : k * size ≤ edges
  pub bases_are : AreBases rings (k * size) bases
  pub length_is : length bases ≡ min edges (k * size + size) - k * size

-- all pieces were computed, and these are their bases one after another
abbrev pub AreJoined : List (Result (Vec ℕ Global) Memory) → List ℕ → Type 0
AreJoined [] bases = bases ≡ []
AreJoined (Ok piece ∷ pieces) bases = (rest : List ℕ) × (bases ≡ piece.items ++ rest) × AreJoined pieces rest
AreJoined (Err fault ∷ pieces) bases = ⊥

-- those of all edges
pub record AreAllBases (rings : List (List Point)) (bases : List ℕ) : Type 0 where
  pub length_is : length bases ≡ edge_count (length rings)
  pub bases_are : AreBases rings 0 bases
