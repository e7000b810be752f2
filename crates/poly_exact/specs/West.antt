-- What a ring keeps beside its vertices: of each edge, whether its west side is in the ring.
use Rattle.std.specs.Prelude.{◌≡◌, ℕ, ◌<◌, ◌≤◌, ◌%◌, pos, ◌<ℤ◌, List, length, slice_index_or, Bool, false, not}
use Rattle.poly_exact.specs.declared.points.Point.{Point}
use Rattle.poly_exact.specs.Places.{Place, IsInside, bit}
use Rattle.poly_exact.specs.Rings.{vertex, next, crossings, IsSimple}
use Rattle.poly_exact.specs.Located.{AreSmall}

abbrev pub flag : List Bool → ℕ → Bool
flag west k = slice_index_or west k false

-- the count is even all along the edge, where `t` holds, and odd else: its left side is then in the ring
pub record IsWest (vs : List Point) (e : ℕ) (t : Bool) : Type 0 where
  pub counts : (m : Place) → pos 0 <ℤ m.w → IsInside (vertex vs e) (vertex vs (next vs e)) m → crossings vs m (length vs) % 2 ≡ bit (not t)

pub record IsRing (vs : List Point) (west : List Bool) : Type 0 where
  pub few : 3 ≤ length vs
  pub many : length vs ≤ 256
  pub small : AreSmall vs
  pub simple : IsSimple vs
  pub flags : length west ≡ length vs
  pub sides : (e : ℕ) → e < length vs → IsWest vs e (flag west e)
