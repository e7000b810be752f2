-- Rings (the linear rings of OGC 06-103r4): lists of vertices, the last of which is joined to the first. Where a place lies to a ring,
-- by the parity of the edges that a ray crosses (Shimrat 1962).
use Rattle.std.specs.Prelude.{◌≢◌, ◌⊎◌, ◌*ℤ◌, ◌<ℤ◌, ◌≡◌, pos, ℕ, zero, suc, ◌+◌, ◌<◌, ◌%◌, cond, nat_lt, List, length, slice_index_or}
use Rattle.poly_exact.specs.declared.points.Point.{Point}
use Rattle.poly_exact.specs.Places.{Place, IsOnEdge, counted}

abbrev pub origin : Point
origin = record { x = pos 0; y = pos 0 }

-- vertex number k
abbrev pub vertex : List Point → ℕ → Point
vertex vs k = slice_index_or vs k origin

-- the number of the vertex that follows vertex number k
abbrev pub next : List Point → ℕ → ℕ
next vs k = cond (nat_lt (k + 1) (length vs)) (k + 1) 0

-- how many of the first k edges are counted at the place
unfoldable pub crossings : List Point → Place → ℕ → ℕ
crossings vs p zero = 0
crossings vs p (suc k) = crossings vs p k + counted (vertex vs k) (vertex vs (next vs k)) p

-- the place is on an edge
pub record IsOnRing (vs : List Point) (p : Place) : Type 0 where
  pub edge : ℕ
  pub below : edge < length vs
  pub on : IsOnEdge (vertex vs edge) (vertex vs (next vs edge)) p

-- an odd number of edges is counted
abbrev pub IsOdd : List Point → Place → Type 0
IsOdd vs p = crossings vs p (length vs) % 2 ≡ 1

-- it is on none, and an odd number of edges is counted
pub record IsInRing (vs : List Point) (p : Place) : Type 0 where
  pub off : IsOnRing vs p → ⊥
  pub odd : crossings vs p (length vs) % 2 ≡ 1

-- it is on none, and an even number of edges is counted
pub record IsOutOfRing (vs : List Point) (p : Place) : Type 0 where
  pub off : IsOnRing vs p → ⊥
  pub even : crossings vs p (length vs) % 2 ≡ 0

-- the place is the vertex
pub record IsAt (v : Point) (p : Place) : Type 0 where
  pub across : p.x ≡ v.x *ℤ p.w
  pub along : p.y ≡ v.y *ℤ p.w

-- two edges of the ring, the first given first, meet only where they next_index one another, at the vertex between them
pub record IsSimple (vs : List Point) : Type 0 where
  pub proper : (k : ℕ) → k < length vs → vertex vs k ≢ vertex vs (next vs k)
  pub apart : (j k : ℕ) → j < k → k < length vs → (p : Place) → pos 0 <ℤ p.w
      → IsOnEdge (vertex vs j) (vertex vs (next vs j)) p → IsOnEdge (vertex vs k) (vertex vs (next vs k)) p
      → ((k ≡ next vs j) × IsAt (vertex vs k) p) ⊎ ((j ≡ next vs k) × IsAt (vertex vs j) p)
