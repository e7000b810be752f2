-- Where a place is in one of two rings, and off both: the rings' edges tell so.
use Rattle.std.proofs.Common.{◌≡◌, ◌≢◌, ℕ, ◌+◌, ◌%◌, ◌<◌, List, length, subst, arith, ◌⊎◌, inl, inr}
use lib.IntN.{ℤ, pos, negsuc, ◌+ℤ◌, ◌-ℤ◌, ◌*ℤ◌, neg_ℤ}
use lib.Signed.{◌<ℤ◌, ◌≤ℤ◌}
use borrow.Author.Differences.{ints}
use Rattle.std.proofs.lemmas.Int.{by_lt_z}
use Rattle.std.proofs.lemmas.Bool.{cases_eq}
use Rattle.poly_exact.specs.declared.points.Point.{Point}
use Rattle.poly_exact.specs.Places.{Place, above, turn, IsOnEdge, IsInside}
use Rattle.poly_exact.specs.Rings.{vertex, next, crossings, IsOnRing, IsInRing, IsOutOfRing, IsSimple}
use Rattle.de9im.specs.Matrix.{Common}
use Rattle.poly_exact.proofs.Whole.{expand, polys, mul-pos, mul-nonneg}
use Rattle.poly_exact.proofs.Crossings.{IsOnEdge-reversed}
use Rattle.poly_exact.proofs.RingLaw.{parity}
use Rattle.poly_exact.proofs.Boxes.{IsNear-wider, Near-both}
use Rattle.poly_exact.proofs.Local.{KeepsOff, box_law, near_clear}
use Rattle.poly_exact.proofs.Shifts.{shifted, IsNear-shifted, above_shift, same_height}
use Rattle.poly_exact.proofs.Sides.{others}
use Rattle.poly_exact.proofs.West.{ray_law, left_turn}
use Rattle.poly_exact.proofs.VertexPlaces.{at}
use Rattle.de9im.proofs.Proper.{crossing_law}
use Rattle.de9im.proofs.Nearest.{IsApart}
use Rattle.de9im.proofs.Converse.{Both, converse}
use Rattle.poly_exact.proofs.EdgeEnds.{ends_apart}

-- ---- a little higher, where no vertex is

below : (n u : ℤ) → (neg_ℤ (pos 1) -ℤ u) *ℤ n ≡ neg_ℤ n -ℤ n *ℤ u
below n u = simp expand (omega (arith, polys))

module _ (vs : List Point) (p : Place) (n : ℤ) (w : pos 0 <ℤ p.w) (large : p.w <ℤ n) where
  pub apart_higher : IsApart vs (shifted n (pos 0) (pos 1) p)
  apart_higher = record {
    each = λ k e.
        (let v = vertex vs k in
        let s = above_shift n (pos 1) p.y p.w v.y in
        let o : pos 1 *ℤ p.w ≡ p.w = omega (arith, ints) in
        by_lt_z (above v p) (pos 0)
        (λ l. let d : (neg_ℤ (pos 1) -ℤ above v p) *ℤ n ≡ neg_ℤ n -ℤ n *ℤ above v p = below n (above v p) in
        let m = mul-nonneg (neg_ℤ (pos 1) -ℤ above v p) n (omega (arith, ints)) (omega (arith, ints)) in omega (arith, ints))
        (λ l. let m = mul-nonneg n (above v p) (omega (arith, ints)) l in omega (arith, ints)));
  }

-- ---- what a place in one of the rings tells

-- the two rings share a stretch of an edge, at whose left each counts as p does
pub record Shared (vs ws : List Point) (p : Place) : Type 0 where
  pub both : Both vs ws p
  pub first : turn (vertex ws both.f) (vertex ws (next ws both.f)) (at (vertex vs both.e)) ≡ pos 0
  pub second : turn (vertex ws both.f) (vertex ws (next ws both.f)) (at (vertex vs (next vs both.e))) ≡ pos 0

-- a place of the first ring lies to the second as p does
pub record Edge (vs ws : List Point) (p : Place) : Type 0 where
  pub m : Place
  pub weight : pos 0 <ℤ m.w
  pub on : IsOnRing vs m
  pub off : IsOnRing ws m → ⊥
  pub alike : (crossings ws p (length ws) + crossings ws m (length ws)) % 2 ≡ 0

module _ (vs ws : List Point) (p : Place) (sv : IsSimple vs) (sw : IsSimple ws) where
  pick : Common (IsOnRing vs) (IsInRing ws) × Common (IsOnRing vs) (IsOutOfRing ws) → Edge vs ws p
  pick c = elim (parity (crossings ws p (length ws))) [
    | inl o ↦ (let e = c.0.second.odd in record { m = c.0.place; weight = c.0.weight; on = c.0.first; off = c.0.second.off; alike = omega arith })
    | inr o ↦ (let e = c.1.second.even in record { m = c.1.place; weight = c.1.weight; on = c.1.first; off = c.1.second.off; alike = omega arith })
  ]

  from_both : Both vs ws p → Edge vs ws p ⊎ Shared vs ws p
  from_both h = elim (ends_apart (vertex vs h.e) (vertex vs (next vs h.e)) (vertex ws h.f) (vertex ws (next ws h.f)) h.m h.inside_e h.inside_f.on.line) [
    | inl t ↦ inl (pick (crossing_law vs ws sw h.e h.f h.below_e h.below_f h.m h.weight h.inside_e.on h.inside_f (inl t)))
    | inr r ↦ elim r [
      | inl t ↦ inl (pick (crossing_law vs ws sw h.e h.f h.below_e h.below_f h.m h.weight h.inside_e.on h.inside_f (inr t)))
      | inr t ↦ inr (record { both = h; first = t.0; second = t.1 })
    ]
  ]

  -- the place of `Both` seen from a place that counts alike
  carry : (q : Place) → (crossings vs q (length vs) + crossings vs p (length vs)) % 2 ≡ 0 → (crossings ws q (length ws) + crossings ws p (length ws)) % 2 ≡ 0 → Both vs ws q → Both vs ws p
  carry q x y h = record {
    m = h.m;
    weight = h.weight;
    e = h.e;
    f = h.f;
    below_e = h.below_e;
    below_f = h.below_f;
    level_e = h.level_e;
    level_f = h.level_f;
    inside_e = h.inside_e;
    inside_f = h.inside_f;
    flip_e = (let g = h.flip_e in omega arith);
    flip_f = (let g = h.flip_f in omega arith);
  }

  pub entry : pos 0 <ℤ p.w → (IsOnRing vs p → ⊥) → (IsOnRing ws p → ⊥) → (crossings vs p (length vs) % 2 ≡ 1) ⊎ (crossings ws p (length ws) % 2 ≡ 1)
      → Edge vs ws p ⊎ (Edge ws vs p ⊎ Shared vs ws p)
  entry w ov ow odd =
      let box = Near-both p (KeepsOff vs p) (KeepsOff ws p) w (box_law vs p w ov) (box_law ws p w ow) in
      let n = box.n +ℤ p.w in
      let s = box.some in
      let np : pos 0 <ℤ n = omega (arith, ints) in
      let q = shifted n (pos 0) (pos 1) p in
      let near = IsNear-shifted n (pos 0) (pos 1) p np w (omega (arith, ints)) (omega (arith, ints)) (omega (arith, ints)) (omega (arith, ints)) in
      let keeps = box.each q (IsNear-wider box.n n p q w box.some (omega (arith, ints)) near) in
      let kv = keeps.0.alike in
      let kw = keeps.1.alike in
      let large : p.w <ℤ n = omega (arith, ints) in
      elim (converse vs ws q near.weight sv sw (apart_higher vs p n w large) (apart_higher ws p n w large) keeps.0.off keeps.1.off (elim odd [ inl x ↦ inl (omega arith) | inr x ↦ inr (omega arith) ])) [
        | inl a ↦ inl (record { m = a.m; weight = a.weight; on = a.on; off = a.off; alike = (let e = a.alike in omega arith) })
        | inr r ↦ elim r [
          | inl a ↦ inr (inl (record { m = a.m; weight = a.weight; on = a.on; off = a.off; alike = (let e = a.alike in omega arith) }))
          | inr h ↦ elim (from_both (carry q kv kw h)) [ inl x ↦ inl x | inr x ↦ inr (inr x) ]
        ]
      ]

-- ---- and back: at the left of a shared stretch

-- a place off both rings that each counts otherwise than m
pub record Beside (vs ws : List Point) (m : Place) : Type 0 where
  pub z : Place
  pub weight : pos 0 <ℤ z.w
  pub off_v : IsOnRing vs z → ⊥
  pub off_w : IsOnRing ws z → ⊥
  pub flip_v : (crossings vs z (length vs) + crossings vs m (length vs)) % 2 ≡ 1
  pub flip_w : (crossings ws z (length ws) + crossings ws m (length ws)) % 2 ≡ 1

to_left : (n x w : ℤ) → pos 0 <ℤ n → pos 0 <ℤ w → ((n *ℤ x +ℤ negsuc 0 *ℤ w) *ℤ w) <ℤ (x *ℤ (n *ℤ w))
to_left n x w h k =
    let o : negsuc 0 *ℤ w ≡ neg_ℤ w = omega (arith, ints) in
    let f : (n *ℤ x +ℤ neg_ℤ w) *ℤ w ≡ x *ℤ (n *ℤ w) -ℤ w *ℤ w = simp expand (omega (arith, polys)) in
    rw (o, f) (omega (arith, ints, mul-pos w w k k))

module _ (vs : List Point) (simple : IsSimple vs) (m : Place) (w : pos 0 <ℤ m.w) (e : ℕ) (b : e < length vs) (level : (vertex vs e).y ≢ (vertex vs (next vs e)).y) (i : IsInside (vertex vs e) (vertex vs (next vs e)) m) where
  left_off : (a b : Point) (z : Place) → a.y ≢ b.y → pos 0 <ℤ z.w → IsInside a b m → z.y *ℤ m.w ≡ m.y *ℤ z.w → (z.x *ℤ m.w) <ℤ (m.x *ℤ z.w) → IsOnEdge a b z → ⊥
  left_off a b z n zw i height left o = by_lt_z a.y b.y
      (λ l. let t = left_turn a b z m (omega (arith, ints)) w i.on.line height left in let f = o.line in omega (arith, ints))
      (λ l. by_lt_z b.y a.y
      (λ k. let o' = IsOnEdge-reversed a b z o in let j = IsOnEdge-reversed a b m i.on in let t = left_turn b a z m (omega (arith, ints)) w j.line height left in let f = o'.line in omega (arith, ints))
      (λ k. n (omega (arith, ints))))

  left_of : (n : ℤ) → pos 0 <ℤ n → (others vs simple e b m w i).n ≤ℤ n → (IsOnRing vs (shifted n (negsuc 0) (pos 0) m) → ⊥) × ((crossings vs (shifted n (negsuc 0) (pos 0) m) (length vs) + crossings vs m (length vs)) % 2 ≡ 1)
  left_of n h large =
      let z = shifted n (negsuc 0) (pos 0) m in
      let box = others vs simple e b m w i in
      let near = IsNear-shifted n (negsuc 0) (pos 0) m h w (omega (arith, ints)) (omega (arith, ints)) (omega (arith, ints)) (omega (arith, ints)) in
      let g = IsNear-wider box.n n m z w box.some large near in
      let height = same_height n m.y m.w in
      let left : (z.x *ℤ m.w) <ℤ (m.x *ℤ z.w) = to_left n m.x m.w h w in (
        (λ o. elim (cases_eq o.edge e) [
          | inl s ↦ left_off (vertex vs e) (vertex vs (next vs e)) z level near.weight i height left (subst (λ j. IsOnEdge (vertex vs j) (vertex vs (next vs j)) z) s o.on)
          | inr s ↦ box.each z g o.edge o.below s o.on
        ]),
        ray_law vs e z m b level near.weight w i height left (λ k l d. near_clear box.n _ _ m z (λ q y. box.each q y k l d) w g),
      )

pub shared_left : (vs ws : List Point) → IsSimple vs → IsSimple ws → (m : Place) → pos 0 <ℤ m.w → (e f : ℕ) (be : e < length vs) (bf : f < length ws)
    → (vertex vs e).y ≢ (vertex vs (next vs e)).y → (vertex ws f).y ≢ (vertex ws (next ws f)).y
    → IsInside (vertex vs e) (vertex vs (next vs e)) m → IsInside (vertex ws f) (vertex ws (next ws f)) m → Beside vs ws m
shared_left vs ws sv sw m w e f be bf le lf ie jf =
    let bv = others vs sv e be m w ie in
    let bw = others ws sw f bf m w jf in
    let n = bv.n +ℤ bw.n in
    let sv' = bv.some in
    let sw' = bw.some in
    let h : pos 0 <ℤ n = omega (arith, ints) in
    let x = left_of vs sv m w e be le ie n h (omega (arith, ints)) in
    let y = left_of ws sw m w f bf lf jf n h (omega (arith, ints)) in
    record { z = shifted n (negsuc 0) (pos 0) m; weight = mul-pos n m.w h w; off_v = x.0; off_w = y.0; flip_v = x.1; flip_w = y.1 }
