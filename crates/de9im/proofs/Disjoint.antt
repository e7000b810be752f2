-- Rings whose boxes are apart: each place is out of one of them, and each ring has places in and on it.
use Rattle.std.proofs.Common.{◌≡◌, ℕ, ◌<◌, List, length, arith, ◌⊎◌, inl, inr}
use lib.IntN.{ℤ, pos, ◌-ℤ◌, ◌*ℤ◌, *ℤ_comm}
use lib.Signed.{◌<ℤ◌, ◌≤ℤ◌}
use borrow.Author.Differences.{ints}
use Rattle.std.proofs.lemmas.Int.{by_lt_z}
use Rattle.poly_exact.specs.declared.points.Point.{Point}
use Rattle.poly_exact.specs.Places.{Place}
use Rattle.poly_exact.specs.Rings.{vertex, IsOnRing, IsInRing, IsOutOfRing, IsSimple}
use Rattle.de9im.specs.Matrix.{Common}
use Rattle.poly_exact.proofs.Whole.{weak, expand, polys, mul-pos, mul-le}
use Rattle.poly_exact.proofs.VertexPlaces.{at, first_on}
use Rattle.de9im.proofs.EdgeGives.{on_out}
use Rattle.poly_exact.proofs.Apart.{beyond_left, beyond_right, beyond_top, beyond_bottom}

minus : (w d u : ℤ) → w *ℤ (d -ℤ u) ≡ w *ℤ d -ℤ w *ℤ u
minus w d u = simp expand (omega (arith, polys))

-- c is at least every first coordinate of the one, and below d, which is at most every one of the other
pub apart_x : (vs ws : List Point) (c d : ℤ) → c <ℤ d → ((k : ℕ) → k < length vs → (vertex vs k).x ≤ℤ c) → ((k : ℕ) → k < length ws → d ≤ℤ (vertex ws k).x)
    → (z : Place) → pos 0 <ℤ z.w → IsOutOfRing vs z ⊎ IsOutOfRing ws z
apart_x vs ws c d h f g z w = by_lt_z z.x (z.w *ℤ d)
    (λ l. inr (beyond_left ws z w (λ k b. let m = mul-le z.w d (vertex ws k).x (weak w) (g k b) in let e = *ℤ_comm z.w (vertex ws k).x in omega (arith, ints))))
    (λ l. inl (beyond_right vs z w (λ k b. let q = f k b in let m = mul-pos z.w (d -ℤ (vertex vs k).x) w (omega (arith, ints)) in let e = minus z.w d (vertex vs k).x in let i = *ℤ_comm z.w (vertex vs k).x in omega (arith, ints))))

pub apart_y : (vs ws : List Point) (c d : ℤ) → c <ℤ d → ((k : ℕ) → k < length vs → (vertex vs k).y ≤ℤ c) → ((k : ℕ) → k < length ws → d ≤ℤ (vertex ws k).y)
    → (z : Place) → pos 0 <ℤ z.w → IsOutOfRing vs z ⊎ IsOutOfRing ws z
apart_y vs ws c d h f g z w = by_lt_z z.y (z.w *ℤ d)
    (λ l. inr (beyond_bottom ws z w (λ k b. let m = mul-le z.w d (vertex ws k).y (weak w) (g k b) in let e = *ℤ_comm z.w (vertex ws k).y in omega (arith, ints))))
    (λ l. inl (beyond_top vs z w (λ k b. let q = f k b in let m = mul-pos z.w (d -ℤ (vertex vs k).y) w (omega (arith, ints)) in let e = minus z.w d (vertex vs k).y in let i = *ℤ_comm z.w (vertex vs k).y in omega (arith, ints))))

-- the entries that are there, where each place is out of one
module _ (vs ws : List Point) (sv : IsSimple vs) (some : 0 < length vs) (each : (z : Place) → pos 0 <ℤ z.w → IsOutOfRing vs z ⊎ IsOutOfRing ws z) where
  pub on_alone : Common (IsOnRing vs) (IsOutOfRing ws)
  on_alone =
      let one : pos 0 <ℤ pos 1 = omega (arith, ints) in
      let z = at (vertex vs 0) in
      let on : IsOnRing vs z = record { edge = 0; below = some; on = first_on _ _ } in
      record { place = z; weight = one; first = on; second = elim (each z one) [ inl o ↦ absurd (o.off on) | inr o ↦ o ] }

  pub in_alone : Common (IsInRing vs) (IsOutOfRing ws)
  in_alone = (on_out vs ws sv on_alone).0
