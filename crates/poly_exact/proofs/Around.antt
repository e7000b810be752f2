-- In every box round every place of a simple ring are a place in the ring and one out of it; so some place is in the ring.
use Rattle.std.proofs.Common.{◌≡◌, ◌<◌, List, length, ap, arith}
use lib.IntN.{ℤ, pos, ◌+ℤ◌, ◌-ℤ◌, ◌*ℤ◌}
use lib.Signed.{◌<ℤ◌, ◌≤ℤ◌}
use borrow.Author.Differences.{ints}
use Rattle.poly_exact.specs.declared.points.Point.{Point}
use Rattle.poly_exact.specs.Places.{Place, IsNear}
use Rattle.poly_exact.specs.Rings.{vertex, next, IsOnRing, IsSimple}
use Rattle.poly_exact.proofs.Whole.{weak, expand, polys, mul-le, nonneg-of-mul}
use Rattle.poly_exact.proofs.Inner.{inner}
use Rattle.poly_exact.proofs.Sides.{pair}
use Rattle.poly_exact.proofs.VertexPlaces.{at, first_on}
use Rattle.poly_exact.specs.Laws.{Around, Inside}

composed : (n a b c mw pw xw : ℤ) → pos 0 <ℤ mw → pos 0 <ℤ pw → pos 0 <ℤ xw → c *ℤ mw ≡ a *ℤ xw +ℤ b *ℤ pw → ((n +ℤ n) *ℤ a) ≤ℤ (mw *ℤ pw) → ((n +ℤ n) *ℤ b) ≤ℤ (xw *ℤ mw) → (n *ℤ c) ≤ℤ (xw *ℤ pw)
composed n a b c mw pw xw hm hp hx e f g =
    let u = mul-le xw _ _ (weak hx) f in
    let v = mul-le pw _ _ (weak hp) g in
    let d : n *ℤ (c *ℤ mw) ≡ n *ℤ (a *ℤ xw +ℤ b *ℤ pw) = ap (λ z. n *ℤ z) e in
    let x : n *ℤ (a *ℤ xw +ℤ b *ℤ pw) +ℤ n *ℤ (a *ℤ xw +ℤ b *ℤ pw) ≡ xw *ℤ ((n +ℤ n) *ℤ a) +ℤ pw *ℤ ((n +ℤ n) *ℤ b) = simp expand (omega (arith, polys)) in
    let y : xw *ℤ (mw *ℤ pw) +ℤ pw *ℤ (xw *ℤ mw) ≡ mw *ℤ (xw *ℤ pw) +ℤ mw *ℤ (xw *ℤ pw) = omega (arith, polys) in
    let z : mw *ℤ (xw *ℤ pw -ℤ n *ℤ c) ≡ mw *ℤ (xw *ℤ pw) -ℤ n *ℤ (c *ℤ mw) = simp expand (omega (arith, polys)) in
    let w = nonneg-of-mul mw (xw *ℤ pw -ℤ n *ℤ c) hm (omega (arith, ints)) in
    omega (arith, ints)

split_right : (px pw mx mw xx xw : ℤ) → (px *ℤ xw -ℤ xx *ℤ pw) *ℤ mw ≡ (px *ℤ mw -ℤ mx *ℤ pw) *ℤ xw +ℤ (mx *ℤ xw -ℤ xx *ℤ mw) *ℤ pw
split_right px pw mx mw xx xw = simp expand (omega (arith, polys))

split_left : (px pw mx mw xx xw : ℤ) → (xx *ℤ pw -ℤ px *ℤ xw) *ℤ mw ≡ (mx *ℤ pw -ℤ px *ℤ mw) *ℤ xw +ℤ (xx *ℤ mw -ℤ mx *ℤ xw) *ℤ pw
split_left px pw mx mw xx xw = simp expand (omega (arith, polys))

pub IsNear-composed : (n : ℤ) (x m p : Place) → pos 0 <ℤ x.w → IsNear (n +ℤ n) x m → IsNear (n +ℤ n) m p → IsNear n x p
IsNear-composed n x m p w h k = record {
  weight = k.weight;
  right = composed n _ _ _ m.w p.w x.w h.weight k.weight w (split_right p.x p.w m.x m.w x.x x.w) k.right h.right;
  left = composed n _ _ _ m.w p.w x.w h.weight k.weight w (split_left p.x p.w m.x m.w x.x x.w) k.left h.left;
  higher = composed n _ _ _ m.w p.w x.w h.weight k.weight w (split_right p.y p.w m.y m.w x.y x.w) k.higher h.higher;
  lower = composed n _ _ _ m.w p.w x.w h.weight k.weight w (split_left p.y p.w m.y m.w x.y x.w) k.lower h.lower;
}

pub around : (vs : List Point) → IsSimple vs → (x : Place) (n : ℤ) → pos 0 <ℤ x.w → pos 0 <ℤ n → IsOnRing vs x → Around vs x n
around vs s x n w h o =
    let hn : pos 0 <ℤ (n +ℤ n) = omega (arith, ints) in
    let i = inner (vertex vs o.edge) (vertex vs (next vs o.edge)) x (n +ℤ n) (s.proper o.edge o.below) w hn o.on in
    let t = pair vs s o.edge o.below i.m i.weight i.within (n +ℤ n) hn in
    record { p = t.p; q = t.q; near_p = IsNear-composed n x i.m t.p w i.near t.near_p; near_q = IsNear-composed n x i.m t.q w i.near t.near_q; in_p = t.in_p; out_q = t.out_q }

pub inside : (vs : List Point) → IsSimple vs → 0 < length vs → Inside vs
inside vs s some =
    let one : pos 0 <ℤ pos 1 = omega (arith, ints) in
    let on : IsOnRing vs (at (vertex vs 0)) = record { edge = 0; below = some; on = first_on (vertex vs 0) (vertex vs (next vs 0)) } in
    let a = around vs s (at (vertex vs 0)) (pos 1) one one on in
    record { place = a.p; weight = a.near_p.weight; within = a.in_p }
