-- In every box round a place strictly inside an edge of a simple ring are a place in the ring and one out of it.
use Rattle.std.proofs.Common.{◌≡◌, ◌≢◌, ℕ, ◌+◌, ◌%◌, ◌<◌, List, length, subst, arith, inl, inr}
use lib.IntN.{ℤ, pos, ◌+ℤ◌, ◌-ℤ◌, ◌*ℤ◌, zero-*ℤ}
use lib.Signed.{◌<ℤ◌}
use borrow.Author.Differences.{ints}
use Rattle.std.proofs.lemmas.Bool.{cases_lt, cases_eq}
use Rattle.poly_exact.specs.declared.points.Point.{Point}
use Rattle.poly_exact.specs.Places.{Place, IsOnEdge, IsInside, IsNear, Near}
use Rattle.poly_exact.specs.Rings.{vertex, next, crossings, IsOnRing, IsInRing, IsOutOfRing, IsSimple, IsAt}
use Rattle.poly_exact.proofs.EdgeLaw.{edge_law}
use Rattle.poly_exact.proofs.RingLaw.{parity, one_law, IsClear-swapped}
use Rattle.poly_exact.proofs.Boxes.{Near-all, off_edge, IsNear-wider}
use Rattle.poly_exact.proofs.Local.{near_clear}
use Rattle.poly_exact.proofs.Shifts.{flanks}

-- ---- a place strictly inside one edge is on no other

at_zero : (v : Point) (m : Place) (c d : ℤ) → IsAt v m → (m.x -ℤ v.x *ℤ m.w) *ℤ c +ℤ (m.y -ℤ v.y *ℤ m.w) *ℤ d ≡ pos 0
at_zero v m c d a =
    let e : m.x -ℤ v.x *ℤ m.w ≡ pos 0 = let f = a.across in omega (arith, ints) in
    let g : m.y -ℤ v.y *ℤ m.w ≡ pos 0 = let f = a.along in omega (arith, ints) in
    rw (e, g) (omega (arith, ints, zero-*ℤ c, zero-*ℤ d))

first_not : (a b : Point) (m : Place) → IsInside a b m → IsAt a m → ⊥
first_not a b m i t = let z = at_zero a m (b.x -ℤ a.x) (b.y -ℤ a.y) t in let h = i.from_first in omega (arith, ints)

second_not : (a b : Point) (m : Place) → IsInside a b m → IsAt b m → ⊥
second_not a b m i t = let z = at_zero b m (a.x -ℤ b.x) (a.y -ℤ b.y) t in let h = i.from_second in omega (arith, ints)

module _ (vs : List Point) (simple : IsSimple vs) (e : ℕ) (b : e < length vs) (m : Place) (w : pos 0 <ℤ m.w) (i : IsInside (vertex vs e) (vertex vs (next vs e)) m) where
  pub alone : (k : ℕ) → k < length vs → k ≢ e → IsOnEdge (vertex vs k) (vertex vs (next vs k)) m → ⊥
  alone k h n o = elim (cases_lt k e) [
    | inl l ↦ elim (simple.apart k e l b m w o i.on) [
      | inl t ↦ first_not _ _ m i t.1
      | inr t ↦ second_not _ _ m i (subst (λ j. IsAt (vertex vs j) m) t.0 t.1)
    ]
    | inr l ↦ elim (simple.apart e k (omega arith) h m w i.on o) [
      | inl t ↦ second_not _ _ m i (subst (λ j. IsAt (vertex vs j) m) t.0 t.1)
      | inr t ↦ first_not _ _ m i t.1
    ]
  ]

  -- a box that misses all other edges
  pub others : Near m (λ p. (k : ℕ) → k < length vs → k ≢ e → IsOnEdge (vertex vs k) (vertex vs (next vs k)) p → ⊥)
  others = Near-all m (λ k p. k ≢ e → IsOnEdge (vertex vs k) (vertex vs (next vs k)) p → ⊥) (length vs) w
      (λ k h. elim (cases_eq k e) [
        | inl s ↦ record { n = pos 1; some = omega (arith, ints); each = λ p g d. absurd (d s) }
        | inr d ↦ (let near = off_edge (vertex vs k) (vertex vs (next vs k)) m w (alone k h d) in
            record { n = near.n; some = near.some; each = λ p g x. near.each p g })
      ])

  pub record Pair (n : ℤ) : Type 0 where
    pub p : Place
    pub q : Place
    pub near_p : IsNear n m p
    pub near_q : IsNear n m q
    pub in_p : IsInRing vs p
    pub out_q : IsOutOfRing vs q

  pub pair : (n : ℤ) → pos 0 <ℤ n → Pair n
  pair n h =
      let k = n +ℤ others.n in
      let s = others.some in
      let f = flanks (vertex vs e) (vertex vs (next vs e)) m k w (omega (arith, ints)) i in
      let far = λ (r : Place) (g : IsNear k m r). IsNear-wider others.n k m r w others.some (omega (arith, ints)) g in
      let off = λ (r : Place) (g : IsNear k m r). others.each r (far r g) in
      let clear = λ (r : Place) (g : IsNear k m r) (j : ℕ) (l : j < length vs) (d : j ≢ e). near_clear others.n (vertex vs j) (vertex vs (next vs j)) m r (λ q y. others.each q y j l d) w (far r g) in
      let lp = one_law vs f.p m e 1 b (λ j l d. edge_law _ _ f.p m f.order (clear f.p f.near_p j l d)) f.flips in
      let lq : (crossings vs f.q (length vs) + crossings vs m (length vs)) % 2 ≡ 0 = elim f.keeps [
        | inl t ↦ (let r = one_law vs f.q m e 0 b (λ j l d. edge_law _ _ f.q m t.0 (clear f.q f.near_q j l d)) t.1 in omega arith)
        | inr t ↦ (let r = one_law vs m f.q e 0 b (λ j l d. edge_law _ _ m f.q t.0 (IsClear-swapped f.q m _ _ (clear f.q f.near_q j l d))) t.1 in omega arith)
      ] in
      let near = λ (r : Place) (g : IsNear k m r). IsNear-wider n k m r w h (omega (arith, ints)) g in
      let off_p : IsOnRing vs f.p → ⊥ = λ o. elim (cases_eq o.edge e) [ inl x ↦ f.off_p (subst (λ j. IsOnEdge (vertex vs j) (vertex vs (next vs j)) f.p) x o.on) | inr y ↦ off f.p f.near_p o.edge o.below y o.on ] in
      let off_q : IsOnRing vs f.q → ⊥ = λ o. elim (cases_eq o.edge e) [ inl x ↦ f.off_q (subst (λ j. IsOnEdge (vertex vs j) (vertex vs (next vs j)) f.q) x o.on) | inr y ↦ off f.q f.near_q o.edge o.below y o.on ] in
      elim (parity (crossings vs f.p (length vs))) [
        | inl odd ↦ record { p = f.p; q = f.q; near_p = near f.p f.near_p; near_q = near f.q f.near_q; in_p = record { off = off_p; odd = odd }; out_q = record { off = off_q; even = omega arith } }
        | inr even ↦ record { p = f.q; q = f.p; near_p = near f.q f.near_q; near_q = near f.p f.near_p; in_p = record { off = off_q; odd = omega arith }; out_q = record { off = off_p; even = even } }
      ]
