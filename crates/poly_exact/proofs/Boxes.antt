-- A place off an edge has a box round it that misses the edge; boxes are convex and get smaller.
use Rattle.std.proofs.Common.{◌≡◌, ℕ, zero, suc, ◌<◌, ◌∙◌, subst, arith, inl, inr}
use Rattle.std.specs.Int.{int_min, int_max}
use lib.IntN.{ℤ, pos, negsuc, nat_abs, ◌+ℤ◌, ◌-ℤ◌, ◌*ℤ◌, neg_ℤ, *ℤ-zero}
use lib.Signed.{◌<ℤ◌, ◌≤ℤ◌}
use borrow.Author.Differences.{ints}
use Rattle.std.proofs.lemmas.Int.{by_lt_z, clamps}
use Rattle.std.proofs.lemmas.Bool.{cases_lt}
use Rattle.poly_exact.specs.declared.points.Point.{Point}
use Rattle.poly_exact.specs.Places.{Place, turn, IsBetween, IsOnEdge, IsNear, Near}
use Rattle.poly_exact.proofs.Crossings.{turn-reversed, IsOnEdge-reversed}
use Rattle.poly_exact.proofs.Whole.{weak, expand, polys, mul-add, add-mul, mul-nonneg, mul-pos, mul-pn, mul-le}

-- ---- smaller boxes

narrow_one : (n k u w : ℤ) → pos 0 <ℤ n → n ≤ℤ k → pos 0 ≤ℤ w → (k *ℤ u) ≤ℤ w → (n *ℤ u) ≤ℤ w
narrow_one n k u w s h z e = by_lt_z u (pos 0)
    (λ m. omega (arith, ints, mul-pn n u (weak s) (weak m)))
    (λ m. let d : pos 0 ≤ℤ (k -ℤ n) = omega (arith, ints) in
    let f : (k -ℤ n) *ℤ u ≡ k *ℤ u -ℤ n *ℤ u = simp expand (omega (arith, polys)) in
    omega (arith, ints, f, mul-nonneg (k -ℤ n) u d m))

pub IsNear-wider : (n k : ℤ) (m p : Place) → pos 0 <ℤ m.w → pos 0 <ℤ n → n ≤ℤ k → IsNear k m p → IsNear n m p
IsNear-wider n k m p w s h e =
    let z : pos 0 ≤ℤ (m.w *ℤ p.w) = weak (mul-pos m.w p.w w e.weight) in
    record {
      weight = e.weight;
      right = narrow_one n k _ _ s h z e.right;
      left = narrow_one n k _ _ s h z e.left;
      higher = narrow_one n k _ _ s h z e.higher;
      lower = narrow_one n k _ _ s h z e.lower;
    }

pub Near-both : (m : Place) (q r : Place → Type 0) → pos 0 <ℤ m.w → Near m q → Near m r → Near m (λ p. q p × r p)
Near-both m q r w a b = by_lt_z a.n b.n
    (λ l. record { n = b.n; some = b.some; each = λ p h. (a.each p (IsNear-wider a.n b.n m p w a.some (weak l) h), b.each p h) })
    (λ l. record { n = a.n; some = a.some; each = λ p h. (a.each p h, b.each p (IsNear-wider b.n a.n m p w b.some l h)) })

pub Near-all : (m : Place) (q : ℕ → Place → Type 0) (k : ℕ) → pos 0 <ℤ m.w → ((j : ℕ) → j < k → Near m (q j)) → Near m (λ p. (j : ℕ) → j < k → q j p)
Near-all m q zero w f = record { n = pos 1; some = omega (arith, ints); each = λ p h j l. absurd (omega arith) }
Near-all m q (suc k) w f =
    let rest = Near-all m q k w (λ j l. f j (omega arith)) in
    let both = Near-both m (λ p. (j : ℕ) → j < k → q j p) (q k) w rest (f k (omega arith)) in
    record {
      n = both.n;
      some = both.some;
      each = λ p h j l. elim (cases_lt j k) [
        | inl x ↦ (both.each p h).0 j x
        | inr y ↦ (let e : k ≡ j = omega arith in subst (λ i. q i p) e (both.each p h).1)
      ];
    }

-- ---- a place off the line

grown : (k n u w : ℤ) → pos 0 ≤ℤ k → (n *ℤ u) ≤ℤ w → (n *ℤ (k *ℤ u)) ≤ℤ (k *ℤ w)
grown k n u w h e =
    let f : n *ℤ (k *ℤ u) ≡ k *ℤ (n *ℤ u) = omega (arith, polys) in
    omega (arith, ints, f, mul-le k (n *ℤ u) w h e)

negation_moves : (n k u : ℤ) → n *ℤ (neg_ℤ k *ℤ u) ≡ n *ℤ (k *ℤ neg_ℤ u)
negation_moves n k u = simp expand (omega (arith, polys))

one_more : (u v : ℤ) → (u +ℤ pos 1) *ℤ v ≡ u *ℤ v +ℤ v
one_more u v = simp expand (omega (arith, polys))

plain : (mw pw t : ℤ) → mw *ℤ pos 0 -ℤ pw *ℤ t ≡ pw *ℤ (neg_ℤ t -ℤ pos 1) +ℤ pw
plain mw pw t = simp expand (omega (arith, polys, *ℤ-zero mw))

plain_more : (mw d pw : ℤ) → (pos 1 +ℤ mw *ℤ d) *ℤ pw ≡ pw +ℤ d *ℤ (mw *ℤ pw)
plain_more mw d pw = simp expand (omega (arith, polys))

apart : (mw pw u v dy u' v' dx : ℤ) → mw *ℤ (u *ℤ dy +ℤ u' *ℤ dx) -ℤ pw *ℤ (v *ℤ dy +ℤ v' *ℤ dx) ≡ dx *ℤ (mw *ℤ u' -ℤ pw *ℤ v') +ℤ dy *ℤ (mw *ℤ u -ℤ pw *ℤ v)
apart mw pw u v dy u' v' dx = simp expand (omega (arith, polys))

bound : (d n u w : ℤ) → (n *ℤ u) ≤ℤ w → (n *ℤ neg_ℤ u) ≤ℤ w → (n *ℤ (d *ℤ u)) ≤ℤ (pos (nat_abs d) *ℤ w)
bound (pos k) n u w h e = grown (pos k) n u w (omega (arith, ints)) h
bound (negsuc k) n u w h e =
    let f : n *ℤ (negsuc k *ℤ u) ≡ n *ℤ (pos (suc k) *ℤ neg_ℤ u) = negation_moves n (pos (suc k)) u in
    rw f (grown (pos (suc k)) n (neg_ℤ u) w (omega (arith, ints)) e)

-- the turn moves no more than the place does
pub moved : (dx dy : ℤ) (a : Point) (m p : Place) → m.w *ℤ ((a.x *ℤ p.w -ℤ p.x) *ℤ dy +ℤ (p.y -ℤ a.y *ℤ p.w) *ℤ dx) -ℤ p.w *ℤ ((a.x *ℤ m.w -ℤ m.x) *ℤ dy +ℤ (m.y -ℤ a.y *ℤ m.w) *ℤ dx) ≡ dx *ℤ (p.y *ℤ m.w -ℤ m.y *ℤ p.w) +ℤ dy *ℤ (m.x *ℤ p.w -ℤ p.x *ℤ m.w)
moved dx dy a m p =
    let e : m.w *ℤ (a.x *ℤ p.w -ℤ p.x) -ℤ p.w *ℤ (a.x *ℤ m.w -ℤ m.x) ≡ m.x *ℤ p.w -ℤ p.x *ℤ m.w = simp expand (omega (arith, polys)) in
    let f : m.w *ℤ (p.y -ℤ a.y *ℤ p.w) -ℤ p.w *ℤ (m.y -ℤ a.y *ℤ m.w) ≡ p.y *ℤ m.w -ℤ m.y *ℤ p.w = simp expand (omega (arith, polys)) in
    let g = apart m.w p.w (a.x *ℤ p.w -ℤ p.x) (a.x *ℤ m.w -ℤ m.x) dy (p.y -ℤ a.y *ℤ p.w) (m.y -ℤ a.y *ℤ m.w) dx in
    g ∙ (λ i. dx *ℤ f i +ℤ dy *ℤ e i)

-- n is large enough that the turn keeps its sign, t
module _ (a b : Point) (m : Place) (w : pos 0 <ℤ m.w) where
  size : ℤ
  size = pos 1 +ℤ m.w *ℤ (pos (nat_abs (b.x -ℤ a.x)) +ℤ pos (nat_abs (b.y -ℤ a.y)))

  near_move : (n : ℤ) (p : Place) → IsNear n m p → (n *ℤ (m.w *ℤ turn a b p -ℤ p.w *ℤ turn a b m)) ≤ℤ ((pos (nat_abs (b.x -ℤ a.x)) +ℤ pos (nat_abs (b.y -ℤ a.y))) *ℤ (m.w *ℤ p.w))
  near_move n p h =
      let dx = b.x -ℤ a.x in
      let dy = b.y -ℤ a.y in
      let u = p.y *ℤ m.w -ℤ m.y *ℤ p.w in
      let v = m.x *ℤ p.w -ℤ p.x *ℤ m.w in
      let e : neg_ℤ u ≡ m.y *ℤ p.w -ℤ p.y *ℤ m.w = omega (arith, ints) in
      let f : neg_ℤ v ≡ p.x *ℤ m.w -ℤ m.x *ℤ p.w = omega (arith, ints) in
      let k = bound dx n u (m.w *ℤ p.w) h.higher (rw e h.lower) in
      let l = bound dy n v (m.w *ℤ p.w) h.left (rw f h.right) in
      rw (moved dx dy a m p, mul-add n (dx *ℤ u) (dy *ℤ v), add-mul (pos (nat_abs dx)) (pos (nat_abs dy)) (m.w *ℤ p.w)) (omega (arith, ints))

-- ---- a place off the range of one coordinate

module _ (mx mw px pw : ℤ) (m : pos 0 <ℤ mw) (p : pos 0 <ℤ pw) where
  too_far : (far : ℤ) → pw ≤ℤ far → ((mw +ℤ pos 1) *ℤ far) ≤ℤ (mw *ℤ pw) → ⊥
  too_far far h e =
      let g : (mw +ℤ pos 1) *ℤ pw ≡ mw *ℤ pw +ℤ pw = one_more mw pw in
      let l = mul-le (mw +ℤ pos 1) pw far (omega (arith, ints)) h in
      omega (arith, ints)

  past : (c : ℤ) → pos 0 <ℤ (mx -ℤ c *ℤ mw) → px ≤ℤ (c *ℤ pw) → ((mw +ℤ pos 1) *ℤ (mx *ℤ pw -ℤ px *ℤ mw)) ≤ℤ (mw *ℤ pw) → ⊥
  past c h k e =
      let f : mx *ℤ pw -ℤ px *ℤ mw ≡ pw *ℤ ((mx -ℤ c *ℤ mw) -ℤ pos 1) +ℤ mw *ℤ (c *ℤ pw -ℤ px) +ℤ pw = simp expand (omega (arith, polys)) in
      let g = mul-nonneg pw ((mx -ℤ c *ℤ mw) -ℤ pos 1) (weak p) (omega (arith, ints)) in
      let l = mul-nonneg mw (c *ℤ pw -ℤ px) (weak m) (omega (arith, ints)) in
      too_far (mx *ℤ pw -ℤ px *ℤ mw) (omega (arith, ints)) e

  before : (c : ℤ) → (mx -ℤ c *ℤ mw) <ℤ pos 0 → (c *ℤ pw) ≤ℤ px → ((mw +ℤ pos 1) *ℤ (px *ℤ mw -ℤ mx *ℤ pw)) ≤ℤ (mw *ℤ pw) → ⊥
  before c h k e =
      let f : px *ℤ mw -ℤ mx *ℤ pw ≡ pw *ℤ ((c *ℤ mw -ℤ mx) -ℤ pos 1) +ℤ mw *ℤ (px -ℤ c *ℤ pw) +ℤ pw = simp expand (omega (arith, polys)) in
      let g = mul-nonneg pw ((c *ℤ mw -ℤ mx) -ℤ pos 1) (weak p) (omega (arith, ints)) in
      let l = mul-nonneg mw (px -ℤ c *ℤ pw) (weak m) (omega (arith, ints)) in
      too_far (px *ℤ mw -ℤ mx *ℤ pw) (omega (arith, ints)) e

  -- so no place of the box is between two ends that m is not between
  off_range : (u v : ℤ) → (IsBetween (u *ℤ mw) (v *ℤ mw) mx → ⊥) → ((mw +ℤ pos 1) *ℤ (mx *ℤ pw -ℤ px *ℤ mw)) ≤ℤ (mw *ℤ pw) → ((mw +ℤ pos 1) *ℤ (px *ℤ mw -ℤ mx *ℤ pw)) ≤ℤ (mw *ℤ pw) → IsBetween (u *ℤ pw) (v *ℤ pw) px → ⊥
  off_range u v n right left i =
      let g = i.greatest in
      let l = i.least in
      by_lt_z (int_max (u *ℤ mw) (v *ℤ mw)) mx
      (λ over. by_lt_z (v *ℤ pw) px
      (λ k. past u (omega (arith, ints, clamps)) (omega (arith, ints, clamps)) right)
      (λ k. past v (omega (arith, ints, clamps)) k right))
      (λ within. by_lt_z mx (int_min (u *ℤ mw) (v *ℤ mw))
      (λ under. by_lt_z px (v *ℤ pw)
      (λ k. before u (omega (arith, ints, clamps)) (omega (arith, ints, clamps)) left)
      (λ k. before v (omega (arith, ints, clamps)) k left))
      (λ above. n (record { least = above; greatest = within })))

-- ---- a place off an edge

off_line : (a b : Point) (m : Place) → pos 0 <ℤ m.w → turn a b m <ℤ pos 0 → Near m (λ p. IsOnEdge a b p → ⊥)
off_line a b m w t =
    let d = pos (nat_abs (b.x -ℤ a.x)) +ℤ pos (nat_abs (b.y -ℤ a.y)) in
    let dn : pos 0 ≤ℤ d = omega (arith, ints) in
    let n = pos 1 +ℤ m.w *ℤ d in
    record {
      n = n;
      some = omega (arith, ints, mul-nonneg m.w d (weak w) dn);
      each = λ p h o.
          (let k : (n *ℤ (m.w *ℤ pos 0 -ℤ p.w *ℤ turn a b m)) ≤ℤ (d *ℤ (m.w *ℤ p.w)) = subst (λ z. (n *ℤ (m.w *ℤ z -ℤ p.w *ℤ turn a b m)) ≤ℤ (d *ℤ (m.w *ℤ p.w))) o.line (near_move a b m w n p h) in
          let l : m.w *ℤ pos 0 -ℤ p.w *ℤ turn a b m ≡ p.w *ℤ (neg_ℤ (turn a b m) -ℤ pos 1) +ℤ p.w = plain m.w p.w (turn a b m) in
          let o : pos 0 ≤ℤ (p.w *ℤ (neg_ℤ (turn a b m) -ℤ pos 1)) = mul-nonneg p.w _ (weak h.weight) (omega (arith, ints)) in
          let q = mul-le n p.w (m.w *ℤ pos 0 -ℤ p.w *ℤ turn a b m) (omega (arith, ints, mul-nonneg m.w d (weak w) dn)) (omega (arith, ints)) in
          let r : n *ℤ p.w ≡ p.w +ℤ d *ℤ (m.w *ℤ p.w) = plain_more m.w d p.w in
          let s = h.weight in
          omega (arith, ints));
    }

pub off_edge : (a b : Point) (m : Place) → pos 0 <ℤ m.w → (IsOnEdge a b m → ⊥) → Near m (λ p. IsOnEdge a b p → ⊥)
off_edge a b m w n = by_lt_z (turn a b m) (pos 0)
    (λ t. off_line a b m w t)
    (λ t. by_lt_z (pos 0) (turn a b m)
    (λ s. let l = off_line b a m w (omega (arith, ints, turn-reversed a b m)) in
    record { n = l.n; some = l.some; each = λ p h o. l.each p h (IsOnEdge-reversed a b p o) })
    (λ s. let line : turn a b m ≡ pos 0 = omega (arith, ints) in
    record {
      n = m.w +ℤ pos 1;
      some = omega (arith, ints);
      each = λ p h o. off_range m.x m.w p.x p.w w h.weight a.x b.x
          (λ across. off_range m.y m.w p.y p.w w h.weight a.y b.y (λ along. n (record { line = line; across = across; along = along })) h.lower h.higher o.along)
          h.left h.right o.across;
    }))
