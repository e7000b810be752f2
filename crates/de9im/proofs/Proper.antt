-- Where two edges of two simple rings cross, each ring has places in the other ring and out of it.
use Rattle.std.proofs.Common.{◌≡◌, ℕ, ◌<◌, List, length, subst, arith, ◌⊎◌, inl, inr}
use lib.IntN.{ℤ, pos, nat_abs, ◌+ℤ◌, ◌-ℤ◌, ◌*ℤ◌, *ℤ-zero}
use lib.Signed.{◌<ℤ◌, ◌≤ℤ◌}
use borrow.Author.Differences.{ints}
use Rattle.std.proofs.lemmas.Bool.{cases_eq}
use Rattle.poly_exact.specs.declared.points.Point.{Point}
use Rattle.poly_exact.specs.Places.{Place, turn, IsOnEdge, IsInside, IsNear, between}
use Rattle.poly_exact.specs.Rings.{vertex, next, crossings, IsOnRing, IsInRing, IsOutOfRing, IsSimple}
use Rattle.de9im.specs.Matrix.{Common}
use Rattle.poly_exact.proofs.Whole.{weak, mul-nonneg, mul-le}
use Rattle.poly_exact.proofs.Crossings.{turn-between}
use Rattle.poly_exact.proofs.Local.{mixed_weight}
use Rattle.poly_exact.proofs.Inner.{one, near_part, back_part, IsOnEdge-between}
use Rattle.de9im.proofs.Halves.{box, opposite}
use Rattle.poly_exact.proofs.RingLaw.{parity}
use Rattle.poly_exact.proofs.VertexPlaces.{at, first_on, second_on}

-- ---- a little towards another place

abbrev pub pull : ℤ → Place → Place → ℤ
pull n x c = n *ℤ (pos (nat_abs (c.x *ℤ x.w -ℤ x.x *ℤ c.w)) +ℤ pos (nat_abs (c.y *ℤ x.w -ℤ x.y *ℤ c.w)))

pub pull_nonneg : (n : ℤ) (x c : Place) → pos 0 <ℤ n → pos 0 ≤ℤ pull n x c
pull_nonneg n x c h = mul-nonneg n _ (weak h) (omega (arith, ints))

pub IsNear-pulled : (n : ℤ) (x c : Place) → pos 0 <ℤ n → pos 0 <ℤ x.w → pos 0 <ℤ c.w → IsNear n x (between (pull n x c) (pos 1) x c)
IsNear-pulled n x c h w v =
    let k = pull n x c in
    let kn = pull_nonneg n x c h in
    record {
      weight = mixed_weight k (pos 1) x.w c.w kn (omega (arith, ints)) (omega (arith, ints)) w v;
      right = near_part n k c.x c.w x.x x.w w kn v (mul-le n _ _ (weak h) (omega (arith, ints)));
      left = back_part n k c.x c.w x.x x.w w kn v (mul-le n _ _ (weak h) (omega (arith, ints)));
      higher = near_part n k c.y c.w x.y x.w w kn v (mul-le n _ _ (weak h) (omega (arith, ints)));
      lower = back_part n k c.y c.w x.y x.w w kn v (mul-le n _ _ (weak h) (omega (arith, ints)));
    }

-- ---- at a place strictly inside two edges that are not on one line

module _ (vs : List Point) (simple : IsSimple vs) (f : ℕ) (bf : f < length vs) (m : Place) (w : pos 0 <ℤ m.w) (i : IsInside (vertex vs f) (vertex vs (next vs f)) m) where
  off_ring : (z : Place) → IsNear (box vs simple f bf m w i).n m z → (turn (vertex vs f) (vertex vs (next vs f)) z ≡ pos 0 → ⊥) → IsOnRing vs z → ⊥
  off_ring z g n c = elim (cases_eq c.edge f) [
    | inl s ↦ n (subst (λ j. turn (vertex vs j) (vertex vs (next vs j)) z ≡ pos 0) s c.on.line)
    | inr s ↦ (box vs simple f bf m w i).each z g c.edge c.below s c.on
  ]

  -- two places on the two sides of the edge: one is in the ring and one is out
  pub both_sides : (q : Place → Type 0) (u v : Place) → IsNear (box vs simple f bf m w i).n m u → IsNear (box vs simple f bf m w i).n m v
      → pos 0 <ℤ turn (vertex vs f) (vertex vs (next vs f)) u → turn (vertex vs f) (vertex vs (next vs f)) v <ℤ pos 0 → q u → q v → Common q (IsInRing vs) × Common q (IsOutOfRing vs)
  both_sides q u v p r h k x y =
      let o = opposite vs simple f bf m w i u v p r h k in
      let ou = off_ring u p (λ e. omega (arith, ints)) in
      let ov = off_ring v r (λ e. omega (arith, ints)) in
      elim (parity (crossings vs u (length vs))) [
        | inl a ↦ (record { place = u; weight = p.weight; first = x; second = record { off = ou; odd = a } }, record { place = v; weight = r.weight; first = y; second = record { off = ov; even = omega arith } })
        | inr a ↦ (record { place = v; weight = r.weight; first = y; second = record { off = ov; odd = omega arith } }, record { place = u; weight = p.weight; first = x; second = record { off = ou; even = a } })
      ]

  -- an edge c d through m whose ends lie on the two sides
  pub crossed : (q : Place → Type 0) (c d : Place) → pos 0 <ℤ c.w → pos 0 <ℤ d.w → pos 0 <ℤ turn (vertex vs f) (vertex vs (next vs f)) c → turn (vertex vs f) (vertex vs (next vs f)) d <ℤ pos 0
      → ((k : ℤ) → pos 0 ≤ℤ k → q (between k (pos 1) m c)) → ((k : ℤ) → pos 0 ≤ℤ k → q (between k (pos 1) m d)) → Common q (IsInRing vs) × Common q (IsOutOfRing vs)
  crossed q c d cw dw h k x y =
      let n = (box vs simple f bf m w i).n in
      let s = (box vs simple f bf m w i).some in
      let line = i.on.line in
      let tc = turn-between (vertex vs f) (vertex vs (next vs f)) (pull n m c) (pos 1) m c in
      let td = turn-between (vertex vs f) (vertex vs (next vs f)) (pull n m d) (pos 1) m d in
      let zc : pull n m c *ℤ turn (vertex vs f) (vertex vs (next vs f)) m ≡ pos 0 = rw line (*ℤ-zero (pull n m c)) in
      let zd : pull n m d *ℤ turn (vertex vs f) (vertex vs (next vs f)) m ≡ pos 0 = rw line (*ℤ-zero (pull n m d)) in
      both_sides q (between (pull n m c) (pos 1) m c) (between (pull n m d) (pos 1) m d) (IsNear-pulled n m c s w cw) (IsNear-pulled n m d s w dw)
      (omega (arith, ints, one (turn (vertex vs f) (vertex vs (next vs f)) c))) (omega (arith, ints, one (turn (vertex vs f) (vertex vs (next vs f)) d)))
      (x (pull n m c) (pull_nonneg n m c s)) (y (pull n m d) (pull_nonneg n m d s))

-- ---- so for two edges of two rings

module _ (ps qs : List Point) (simple : IsSimple qs) (e f : ℕ) (be : e < length ps) (bf : f < length qs) (m : Place) (w : pos 0 <ℤ m.w)
    (ie : IsOnEdge (vertex ps e) (vertex ps (next ps e)) m) (i : IsInside (vertex qs f) (vertex qs (next qs f)) m) where
  towards : (c : Place) → pos 0 <ℤ c.w → IsOnEdge (vertex ps e) (vertex ps (next ps e)) c → (k : ℤ) → pos 0 ≤ℤ k → IsOnRing ps (between k (pos 1) m c)
  towards c cw o k h = record { edge = e; below = be; on = IsOnEdge-between _ _ k (pos 1) m c h (omega (arith, ints)) w cw ie o }

  -- the first ring's edge has its ends on the two sides of the second's
  pub crossing_law : ((pos 0 <ℤ turn (vertex qs f) (vertex qs (next qs f)) (at (vertex ps e))) × (turn (vertex qs f) (vertex qs (next qs f)) (at (vertex ps (next ps e))) <ℤ pos 0))
      ⊎ ((turn (vertex qs f) (vertex qs (next qs f)) (at (vertex ps e)) <ℤ pos 0) × (pos 0 <ℤ turn (vertex qs f) (vertex qs (next qs f)) (at (vertex ps (next ps e)))))
      → Common (IsOnRing ps) (IsInRing qs) × Common (IsOnRing ps) (IsOutOfRing qs)
  crossing_law s =
      let a = at (vertex ps e) in
      let b = at (vertex ps (next ps e)) in
      let o : pos 0 <ℤ pos 1 = omega (arith, ints) in
      elim s [
        | inl t ↦ crossed qs simple f bf m w i (IsOnRing ps) a b o o t.0 t.1 (towards a o (first_on _ _)) (towards b o (second_on _ _))
        | inr t ↦ crossed qs simple f bf m w i (IsOnRing ps) b a o o t.1 t.0 (towards b o (second_on _ _)) (towards a o (first_on _ _))
      ]
