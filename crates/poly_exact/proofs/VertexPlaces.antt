-- A vertex as a place, which lies on the edges that it ends.
use Rattle.std.proofs.Common.{◌≡◌, arith}
use lib.IntN.{ℤ, pos, ◌+ℤ◌, ◌-ℤ◌, ◌*ℤ◌, zero-*ℤ}
use borrow.Author.Differences.{ints}
use Rattle.std.proofs.lemmas.Int.{clamps}
use Rattle.poly_exact.specs.declared.points.Point.{Point}
use Rattle.poly_exact.specs.Places.{Place, IsBetween, IsOnEdge}
use Rattle.poly_exact.proofs.Crossings.{IsOnEdge-reversed}

abbrev pub at : Point → Place
at v = record { x = v.x; y = v.y; w = pos 1 }

end_range : (u v : ℤ) → IsBetween (u *ℤ pos 1) (v *ℤ pos 1) u
end_range u v = record { least = omega (arith, ints, clamps); greatest = omega (arith, ints, clamps) }

zero_at : (u x c d : ℤ) → (u *ℤ pos 1 -ℤ u) *ℤ c +ℤ (x -ℤ x *ℤ pos 1) *ℤ d ≡ pos 0
zero_at u x c d =
    let e : u *ℤ pos 1 -ℤ u ≡ pos 0 = omega (arith, ints) in
    let f : x -ℤ x *ℤ pos 1 ≡ pos 0 = omega (arith, ints) in
    rw (e, f) (omega (arith, ints, zero-*ℤ c, zero-*ℤ d))

pub first_on : (a b : Point) → IsOnEdge a b (at a)
first_on a b = record { line = zero_at a.x a.y (b.y -ℤ a.y) (b.x -ℤ a.x); across = end_range a.x b.x; along = end_range a.y b.y }

pub second_on : (a b : Point) → IsOnEdge a b (at b)
second_on a b = IsOnEdge-reversed b a (at b) (first_on b a)
