-- What holds of the points round a ring.
use Rattle.std.specs.Prelude.{◌<◌, ℤ, pos, ◌<ℤ◌, List, length}
use Rattle.poly_exact.specs.declared.points.Point.{Point}
use Rattle.poly_exact.specs.Places.{Place, IsNear, Near}
use Rattle.poly_exact.specs.Rings.{IsOnRing, IsInRing, IsOutOfRing, IsSimple}

-- a point in a ring has a box round it whose points are all in the ring
abbrev pub InsideIsOpen : Type 0
InsideIsOpen = (vs : List Point) (p : Place) → pos 0 <ℤ p.w → IsInRing vs p → Near p (IsInRing vs)

-- and a point out of a ring has one whose points are all out of it
abbrev pub OutsideIsOpen : Type 0
OutsideIsOpen = (vs : List Point) (p : Place) → pos 0 <ℤ p.w → IsOutOfRing vs p → Near p (IsOutOfRing vs)

-- a point in the ring and one out of it, both in the box of that size round x
pub record Around (vs : List Point) (x : Place) (n : ℤ) : Type 0 where
  pub p : Place
  pub q : Place
  pub near_p : IsNear n x p
  pub near_q : IsNear n x q
  pub in_p : IsInRing vs p
  pub out_q : IsOutOfRing vs q

-- every box round a point on a simple ring has both
abbrev pub BoundaryHasBothSides : Type 0
BoundaryHasBothSides = (vs : List Point) → IsSimple vs → (x : Place) (n : ℤ) → pos 0 <ℤ x.w → pos 0 <ℤ n → IsOnRing vs x → Around vs x n

-- a point in the ring
pub record Inside (vs : List Point) : Type 0 where
  pub place : Place
  pub weight : pos 0 <ℤ place.w
  pub within : IsInRing vs place

-- a simple ring with a vertex has one
abbrev pub RingHasInside : Type 0
RingHasInside = (vs : List Point) → IsSimple vs → 0 < length vs → Inside vs
