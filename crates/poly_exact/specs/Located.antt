-- Where a point lies to an edge and to a ring, by the edges that its ray to the right crosses.
use Rattle.std.specs.Prelude.{◌≡◌, ◌%◌, ℕ, ◌<◌, ℤ, pos, ◌*ℤ◌, List, length, Bool, false, cond, int_lt, int_le, ◌&&◌}
use Rattle.poly_exact.specs.declared.points.Point.{Point}
use Rattle.poly_exact.specs.declared.points.HalfPoint.{HalfPoint}
use Rattle.poly_exact.specs.declared.locations.RayHit.{RayHit}
use Rattle.poly_exact.specs.declared.locations.RayHit.TheVariants as hit
use Rattle.poly_exact.specs.declared.locations.Location.{Location}
use Rattle.poly_exact.specs.declared.locations.Location.TheVariants as location
use Rattle.poly_exact.specs.Places.{Place, IsOnEdge, counted, bit}
use Rattle.poly_exact.specs.Rings.{vertex, next, crossings, IsOnRing, IsInRing, IsOutOfRing}
use Rattle.poly_exact.specs.Small.{IsSmall}

-- the point is not on the edge, which is counted n times
pub record IsPassed (a b : Point) (p : Place) (n : ℕ) : Type 0 where
  pub off : IsOnEdge a b p → ⊥
  pub counts : counted a b p ≡ n

-- what casting a ray at one edge tells
abbrev pub IsRayHit : RayHit → Point → Point → Place → Type 0
IsRayHit hit.On a b p = IsOnEdge a b p
IsRayHit hit.Crosses a b p = IsPassed a b p 1
IsRayHit hit.Misses a b p = IsPassed a b p 0

-- by the turn, the two heights, whether the edge rises, and whether the point is within the rectangle round the edge
abbrev pub judged : ℤ → ℤ → ℤ → Bool → Bool → RayHit
judged t first second rise within =
    cond (int_lt t (pos 0))
    (cond (int_le (pos 0) first) (cond (int_le (pos 0) second) hit.Misses (cond rise hit.Misses hit.Crosses)) (cond (int_le (pos 0) second) (cond rise hit.Misses hit.Crosses) hit.Misses))
    (cond (int_lt (pos 0) t)
    (cond (int_le (pos 0) first) (cond (int_le (pos 0) second) hit.Misses (cond rise hit.Crosses hit.Misses)) (cond (int_le (pos 0) second) (cond rise hit.Crosses hit.Misses) hit.Misses))
    (cond within hit.On hit.Misses))

-- z is between 2 u and 2 v
abbrev pub is_within : ℤ → ℤ → ℤ → Bool
is_within u v z = cond (int_le u v) (cond (int_le (u *ℤ pos 2) z) (int_le z (v *ℤ pos 2)) false) (cond (int_le (v *ℤ pos 2) z) (int_le z (u *ℤ pos 2)) false)

-- the half point is within the rectangle round the edge
abbrev pub is_boxed : Point → Point → HalfPoint → Bool
is_boxed a b p = is_within a.x b.x p.x && is_within a.y b.y p.y

-- where the point lies to the ring
abbrev pub IsLocated : Location → List Point → Place → Type 0
IsLocated location.In vs p = IsInRing vs p
IsLocated location.On vs p = IsOnRing vs p
IsLocated location.Out vs p = IsOutOfRing vs p

-- all vertices are within the limits
pub record AreSmall (vs : List Point) : Type 0 where
  pub each : (k : ℕ) → k < length vs → IsSmall (vertex vs k)

-- the place is on none of the first k edges, and `odd` is the parity of those counted
pub record IsPassedBy (vs : List Point) (p : Place) (k : ℕ) (odd : Bool) : Type 0 where
  pub off : (j : ℕ) → j < k → IsOnEdge (vertex vs j) (vertex vs (next vs j)) p → ⊥
  pub parity : crossings vs p k % 2 ≡ bit odd
