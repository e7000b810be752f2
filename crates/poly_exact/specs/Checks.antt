-- When a list of vertices is a simple ring, and which pair of edges is the first that shows that it is none.
use Rattle.std.specs.Prelude.{◌≡◌, ◌≢◌, ◌⊎◌, ℕ, ◌<◌, ◌%◌, pos, ◌<ℤ◌, List, length, Bool}
use Rattle.poly_exact.specs.declared.points.Point.{Point}
use Rattle.poly_exact.specs.declared.checks.Simplicity.{Simplicity}
use Rattle.poly_exact.specs.declared.checks.Simplicity.TheVariants as simplicity
use Rattle.poly_exact.specs.Places.{Place, IsOnEdge, bit}
use Rattle.poly_exact.specs.Rects.{block_end}
use Rattle.poly_exact.specs.Rings.{vertex, next, crossings, IsAt, IsSimple}

-- successive vertices differ
pub record AreProper (vs : List Point) : Type 0 where
  pub each : (k : ℕ) → k < length vs → vertex vs k ≢ vertex vs (next vs k)

-- the two edges meet only where they next_index one another, at the vertex between them
pub record IsGoodPair (vs : List Point) (e f : ℕ) : Type 0 where
  pub meets : (p : Place) → pos 0 <ℤ p.w → IsOnEdge (vertex vs e) (vertex vs (next vs e)) p → IsOnEdge (vertex vs f) (vertex vs (next vs f)) p
      → ((f ≡ next vs e) × IsAt (vertex vs f) p) ⊎ ((e ≡ next vs f) × IsAt (vertex vs e) p)

-- edge number e with those from e + 1 to before k
pub record AreGoodTo (vs : List Point) (e k : ℕ) : Type 0 where
  pub each : (f : ℕ) → e < f → f < k → IsGoodPair vs e f

-- the first k edges with all later ones
pub record AreAllGoodTo (vs : List Point) (k : ℕ) : Type 0 where
  pub each : (e : ℕ) → e < k → AreGoodTo vs e (length vs)

pub record IsFirstBad (vs : List Point) (e f : ℕ) : Type 0 where
  pub order : e < f
  pub below : f < length vs
  pub bad : IsGoodPair vs e f → ⊥
  pub before : AreGoodTo vs e f
  pub earlier : AreAllGoodTo vs e

-- of one edge
pub record IsBadOf (vs : List Point) (e f : ℕ) : Type 0 where
  pub order : e < f
  pub below : f < length vs
  pub bad : IsGoodPair vs e f → ⊥
  pub before : AreGoodTo vs e f

abbrev pub IsChecked : Simplicity → List Point → Type 0
IsChecked simplicity.Simple vs = IsSimple vs
IsChecked (simplicity.Meet e f) vs = IsFirstBad vs e f

abbrev pub IsEdgeChecked : Simplicity → List Point → ℕ → Type 0
IsEdgeChecked simplicity.Simple vs e = AreGoodTo vs e (length vs)
IsEdgeChecked (simplicity.Meet i f) vs e = (i ≡ e) × IsBadOf vs e f

-- with the later edges up to the end of block b
abbrev pub IsBlockChecked : Simplicity → List Point → ℕ → ℕ → Type 0
IsBlockChecked simplicity.Simple vs e b = AreGoodTo vs e (block_end vs b)
IsBlockChecked (simplicity.Meet i f) vs e b = (i ≡ e) × IsBadOf vs e f

-- the parity of the count of the first k edges
pub record IsParity (vs : List Point) (p : Place) (k : ℕ) (odd : Bool) : Type 0 where
  pub parity : crossings vs p k % 2 ≡ bit odd
