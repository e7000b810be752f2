-- Points within the limits, and the rational points that points and half points stand for.
use Rattle.std.specs.Prelude.{ℤ, pos, negsuc, neg_ℤ, ◌≤ℤ◌, int_lt, cond}
use Rattle.poly_exact.specs.declared.points.Point.{Point}
use Rattle.poly_exact.specs.declared.points.HalfPoint.{HalfPoint}
use Rattle.poly_exact.specs.Places.{Place}

-- within four times the limits, as differences of coordinates and doubled ones are
pub record IsShort (a : ℤ) : Type 0 where
  pub least : neg_ℤ (pos 400000000) ≤ℤ a
  pub greatest : a ≤ℤ pos 400000000

pub record IsSmall (a : Point) : Type 0 where
  pub left : neg_ℤ (pos 100000000) ≤ℤ a.x
  pub right : a.x ≤ℤ pos 100000000
  pub low : neg_ℤ (pos 100000000) ≤ℤ a.y
  pub high : a.y ≤ℤ pos 100000000

pub record IsSmallHalfPoint (p : HalfPoint) : Type 0 where
  pub left : neg_ℤ (pos 200000000) ≤ℤ p.x
  pub right : p.x ≤ℤ pos 200000000
  pub low : neg_ℤ (pos 200000000) ≤ℤ p.y
  pub high : p.y ≤ℤ pos 200000000

abbrev pub place : HalfPoint → Place
place p = record { x = p.x; y = p.y; w = pos 2 }

abbrev pub place_at : Point → Place
place_at a = record { x = a.x; y = a.y; w = pos 1 }

abbrev pub sign_of : ℤ → ℤ
sign_of z = cond (int_lt z (pos 0)) (negsuc 0) (cond (int_lt (pos 0) z) (pos 1) (pos 0))
