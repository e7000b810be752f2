-- One point given by two places.
use Rattle.std.proofs.Common.{◌≡◌, arith}
use lib.IntN.{ℤ, pos, ◌+ℤ◌, ◌-ℤ◌, ◌*ℤ◌, *ℤ_comm, *ℤ-zero}
use lib.Signed.{◌<ℤ◌, ◌≤ℤ◌}
use borrow.Author.Differences.{ints}
use Rattle.std.proofs.lemmas.Int.{by_lt_z, clamps}
use Rattle.poly_exact.specs.declared.points.Point.{Point}
use Rattle.poly_exact.specs.Places.{Place, turn, IsBetween, IsOnEdge}
use Rattle.poly_exact.proofs.Whole.{weak, expand, polys, mul-nonneg, mul-le, zero-of-mul, nonneg-of-mul}
use Rattle.poly_exact.proofs.Boxes.{moved}

-- ---- one place given twice

same_low : (c pw qw px qx : ℤ) → pos 0 <ℤ pw → pos 0 <ℤ qw → px *ℤ qw ≡ qx *ℤ pw → (c *ℤ pw) ≤ℤ px → (c *ℤ qw) ≤ℤ qx
same_low c pw qw px qx h k e l =
    let f : pw *ℤ (qx -ℤ c *ℤ qw) ≡ qx *ℤ pw -ℤ px *ℤ qw +ℤ qw *ℤ (px -ℤ c *ℤ pw) = simp expand (omega (arith, polys)) in
    let g = nonneg-of-mul pw (qx -ℤ c *ℤ qw) h (omega (arith, ints, mul-nonneg qw (px -ℤ c *ℤ pw) (weak k) (omega (arith, ints)))) in
    omega (arith, ints)

same_high : (c pw qw px qx : ℤ) → pos 0 <ℤ pw → pos 0 <ℤ qw → px *ℤ qw ≡ qx *ℤ pw → px ≤ℤ (c *ℤ pw) → qx ≤ℤ (c *ℤ qw)
same_high c pw qw px qx h k e l =
    let f : pw *ℤ (c *ℤ qw -ℤ qx) ≡ px *ℤ qw -ℤ qx *ℤ pw +ℤ qw *ℤ (c *ℤ pw -ℤ px) = simp expand (omega (arith, polys)) in
    let g = nonneg-of-mul pw (c *ℤ qw -ℤ qx) h (omega (arith, ints, mul-nonneg qw (c *ℤ pw -ℤ px) (weak k) (omega (arith, ints)))) in
    omega (arith, ints)

same_range : (c d pw qw px qx : ℤ) → pos 0 <ℤ pw → pos 0 <ℤ qw → px *ℤ qw ≡ qx *ℤ pw → IsBetween (c *ℤ pw) (d *ℤ pw) px → IsBetween (c *ℤ qw) (d *ℤ qw) qx
same_range c d pw qw px qx h k e b =
    let l = b.least in let g = b.greatest in
    by_lt_z c d
    (λ o. let m = mul-le pw c d (weak h) (weak o) in let n = mul-le qw c d (weak k) (weak o) in
    let x = *ℤ_comm pw c in let y = *ℤ_comm pw d in let x' = *ℤ_comm qw c in let y' = *ℤ_comm qw d in
    let u = same_low c pw qw px qx h k e (omega (arith, ints, clamps)) in let v = same_high d pw qw px qx h k e (omega (arith, ints, clamps)) in
    record { least = omega (arith, ints, clamps); greatest = omega (arith, ints, clamps) })
    (λ o. let m = mul-le pw d c (weak h) o in let n = mul-le qw d c (weak k) o in
    let x = *ℤ_comm pw c in let y = *ℤ_comm pw d in let x' = *ℤ_comm qw c in let y' = *ℤ_comm qw d in
    let u = same_low d pw qw px qx h k e (omega (arith, ints, clamps)) in let v = same_high c pw qw px qx h k e (omega (arith, ints, clamps)) in
    record { least = omega (arith, ints, clamps); greatest = omega (arith, ints, clamps) })

pub IsOnEdge-same : (a b : Point) (p q : Place) → pos 0 <ℤ p.w → pos 0 <ℤ q.w → p.x *ℤ q.w ≡ q.x *ℤ p.w → p.y *ℤ q.w ≡ q.y *ℤ p.w → IsOnEdge a b p → IsOnEdge a b q
IsOnEdge-same a b p q h k e f o = record {
  line = zero-of-mul p.w (turn a b q) h
      (let g = moved (b.x -ℤ a.x) (b.y -ℤ a.y) a p q in
      let y : q.y *ℤ p.w -ℤ p.y *ℤ q.w ≡ pos 0 = omega (arith, ints) in
      let x : p.x *ℤ q.w -ℤ q.x *ℤ p.w ≡ pos 0 = omega (arith, ints) in
      let u : (b.x -ℤ a.x) *ℤ (q.y *ℤ p.w -ℤ p.y *ℤ q.w) ≡ pos 0 = rw y (*ℤ-zero (b.x -ℤ a.x)) in
      let v : (b.y -ℤ a.y) *ℤ (p.x *ℤ q.w -ℤ q.x *ℤ p.w) ≡ pos 0 = rw x (*ℤ-zero (b.y -ℤ a.y)) in
      let z : q.w *ℤ turn a b p ≡ pos 0 = rw o.line (*ℤ-zero q.w) in
      omega (arith, ints));
  across = same_range a.x b.x p.w q.w p.x q.x h k e o.across;
  along = same_range a.y b.y p.w q.w p.y q.y h k f o.along;
}
