-- A place beyond all vertices of a ring at one of its four sides is out of the ring.
use Rattle.std.proofs.Common.{◌≡◌, ℕ, zero, suc, ◌+◌, ◌%◌, ◌<◌, ◌≤◌, Bool, true, false, cond, List, length, refl, sym, ap, ◌∙◌, subst, arith, inl, inr}
use Rattle.std.specs.Prelude.{int_lt}
use lib.IntN.{ℤ, pos, ◌+ℤ◌, ◌-ℤ◌, ◌*ℤ◌, neg_ℤ}
use lib.Signed.{◌<ℤ◌}
use borrow.Author.Differences.{ints}
use Rattle.std.proofs.lemmas.Int.{clamps}
use Rattle.poly_exact.specs.declared.points.Point.{Point}
use Rattle.poly_exact.specs.Places.{Place, above, turn, counted, is_under, is_right, bit}
use Rattle.poly_exact.specs.Rings.{vertex, next, crossings, IsOutOfRing}
use Rattle.poly_exact.proofs.Whole.{weak, expand, polys, mul-nonneg, mul-np, mul-neg-neg, mul-pos-neg, pos-of-mul, neg-of-mul}
use Rattle.poly_exact.proofs.EdgeLaw.{count_of, under_yes, under_no}
use Rattle.poly_exact.proofs.RingLaw.{next-more, next-last}
use Rattle.std.proofs.lemmas.Bool.{cases_lt}

abbrev pub right_of : Point → Place → ℤ
right_of a p = p.x -ℤ a.x *ℤ p.w

-- the turn by how the place lies to each end
by_ends : (dx dy u v u' v' w : ℤ) → u ≡ u' +ℤ w *ℤ dx → v ≡ v' +ℤ w *ℤ dy → w *ℤ (neg_ℤ u *ℤ dy +ℤ v *ℤ dx) ≡ u *ℤ v' -ℤ u' *ℤ v
by_ends dx dy u v u' v' w e f = rw (e, f) (simp expand (omega (arith, polys)))

pub turn-ends : (a b : Point) (p : Place) → p.w *ℤ turn a b p ≡ right_of a p *ℤ above b p -ℤ right_of b p *ℤ above a p
turn-ends a b p =
    let x : right_of a p ≡ right_of b p +ℤ p.w *ℤ (b.x -ℤ a.x) = simp expand (omega (arith, polys)) in
    let y : above a p ≡ above b p +ℤ p.w *ℤ (b.y -ℤ a.y) = simp expand (omega (arith, polys)) in
    let t : turn a b p ≡ neg_ℤ (right_of a p) *ℤ (b.y -ℤ a.y) +ℤ above a p *ℤ (b.x -ℤ a.x) = ap (λ z. z *ℤ (b.y -ℤ a.y) +ℤ above a p *ℤ (b.x -ℤ a.x)) (omega (arith, ints)) in
    rw t (by_ends (b.x -ℤ a.x) (b.y -ℤ a.y) (right_of a p) (above a p) (right_of b p) (above b p) p.w x y)

drop : (a b : Point) (p : Place) → above a p -ℤ above b p ≡ p.w *ℤ (b.y -ℤ a.y)
drop a b p = simp expand (omega (arith, polys))

-- which end is lower
rises : (a b : Point) (p : Place) → pos 0 <ℤ p.w → is_under a p ≡ true → is_under b p ≡ false → int_lt a.y b.y ≡ true
rises a b p w e f =
    let x = under_yes a p e in let y = under_no b p f in let d = drop a b p in
    let g = pos-of-mul p.w (b.y -ℤ a.y) (weak w) (omega (arith, ints)) in
    sym (omega (arith, ints))

falls : (a b : Point) (p : Place) → pos 0 <ℤ p.w → is_under a p ≡ false → is_under b p ≡ true → int_lt a.y b.y ≡ false
falls a b p w e f =
    let x = under_no a p e in let y = under_yes b p f in let d = drop a b p in
    let g = neg-of-mul p.w (b.y -ℤ a.y) (weak w) (omega (arith, ints)) in
    sym (omega (arith, ints))

module _ (a b : Point) (p : Place) (w : pos 0 <ℤ p.w) where
  right_rises : is_under a p ≡ true → is_under b p ≡ false → is_right a b p ≡ int_lt (pos 0) (turn a b p)
  right_rises e f = ap (λ t. cond t (int_lt (pos 0) (turn a b p)) (int_lt (turn a b p) (pos 0))) (rises a b p w e f)

  right_falls : is_under a p ≡ false → is_under b p ≡ true → is_right a b p ≡ int_lt (turn a b p) (pos 0)
  right_falls e f = ap (λ t. cond t (int_lt (pos 0) (turn a b p)) (int_lt (turn a b p) (pos 0))) (falls a b p w e f)

  none_of : (ua ub r : Bool) → (ua ≡ true → ub ≡ false → r ≡ false) → (ua ≡ false → ub ≡ true → r ≡ false) → count_of ua ub r ≡ 0
  none_of true true r f g = refl
  none_of true false r f g = rw (f refl refl) refl
  none_of false true r f g = rw (g refl refl) refl
  none_of false false r f g = refl

  all_of : (ua ub r : Bool) → (ua ≡ true → ub ≡ false → r ≡ true) → (ua ≡ false → ub ≡ true → r ≡ true) → (count_of ua ub r + bit ua + bit ub) % 2 ≡ 0
  all_of true true r f g = refl
  all_of true false r f g = rw (f refl refl) refl
  all_of false true r f g = rw (g refl refl) refl
  all_of false false r f g = refl

  pub count_right : pos 0 <ℤ right_of a p → pos 0 <ℤ right_of b p → counted a b p ≡ 0
  count_right x y =
      let t = turn-ends a b p in
      none_of (is_under a p) (is_under b p) (is_right a b p)
      (λ e f. right_rises e f ∙ (let u = under_yes a p e in let v = under_no b p f in let m = mul-pos-neg _ _ x v in let n = mul-nonneg _ _ (weak y) u in
      let g = neg-of-mul p.w (turn a b p) (weak w) (omega (arith, ints)) in sym (omega (arith, ints))))
      (λ e f. right_falls e f ∙ (let u = under_no a p e in let v = under_yes b p f in let m = mul-nonneg _ _ (weak x) v in let n = mul-pos-neg _ _ y u in
      let g = pos-of-mul p.w (turn a b p) (weak w) (omega (arith, ints)) in sym (omega (arith, ints))))

  pub count_left : right_of a p <ℤ pos 0 → right_of b p <ℤ pos 0 → (counted a b p + bit (is_under a p) + bit (is_under b p)) % 2 ≡ 0
  count_left x y =
      let t = turn-ends a b p in
      all_of (is_under a p) (is_under b p) (is_right a b p)
      (λ e f. right_rises e f ∙ (let u = under_yes a p e in let v = under_no b p f in let m = mul-neg-neg _ _ x v in let n = mul-np _ _ (weak y) u in
      let g = pos-of-mul p.w (turn a b p) (weak w) (omega (arith, ints)) in sym (omega (arith, ints))))
      (λ e f. right_falls e f ∙ (let u = under_no a p e in let v = under_yes b p f in let m = mul-np _ _ (weak x) v in let n = mul-neg-neg _ _ y u in
      let g = neg-of-mul p.w (turn a b p) (weak w) (omega (arith, ints)) in sym (omega (arith, ints))))

-- ---- of all edges

module _ (vs : List Point) (p : Place) (w : pos 0 <ℤ p.w) where
  none_along : ((k : ℕ) → k < length vs → counted (vertex vs k) (vertex vs (next vs k)) p ≡ 0) → (k : ℕ) → k ≤ length vs → crossings vs p k ≡ 0
  unfolding crossings
  none_along f zero h = refl
  none_along f (suc k) h = let x = none_along f k (omega arith) in let y = f k (omega arith) in omega arith

  even_along : ((k : ℕ) → k < length vs → (counted (vertex vs k) (vertex vs (next vs k)) p + bit (is_under (vertex vs k) p) + bit (is_under (vertex vs (next vs k)) p)) % 2 ≡ 0)
      → (k : ℕ) → k < length vs → (crossings vs p k + bit (is_under (vertex vs 0) p) + bit (is_under (vertex vs k) p)) % 2 ≡ 0
  unfolding crossings
  even_along f zero h = omega arith
  even_along f (suc k) h =
      let x = even_along f k (omega arith) in
      let y = f k (omega arith) in
      let e : next vs k ≡ k + 1 = next-more vs k (omega arith) in
      let s : vertex vs (suc k) ≡ vertex vs (next vs k) = ap (vertex vs) (omega arith) in
      rw s (omega arith)

  even_whole : ((k : ℕ) → k < length vs → (counted (vertex vs k) (vertex vs (next vs k)) p + bit (is_under (vertex vs k) p) + bit (is_under (vertex vs (next vs k)) p)) % 2 ≡ 0)
      → (n : ℕ) → length vs ≡ n → crossings vs p n % 2 ≡ 0
  unfolding crossings
  even_whole f zero e = refl
  even_whole f (suc k) e =
      let x = even_along f k (omega arith) in
      let y = f k (omega arith) in
      let g : next vs k ≡ 0 = next-last vs k (omega arith) in
      let s : vertex vs 0 ≡ vertex vs (next vs k) = ap (vertex vs) (sym g) in
      let x' = subst (λ v. (crossings vs p k + bit (is_under v p) + bit (is_under (vertex vs k) p)) % 2 ≡ 0) s x in
      omega arith

  next-below : (k : ℕ) → k < length vs → next vs k < length vs
  next-below k h = elim (cases_lt (k + 1) (length vs)) [ inl x ↦ (let e = next-more vs k x in omega arith) | inr y ↦ (let e = next-last vs k (omega arith) in omega arith) ]

  pub beyond_right : ((k : ℕ) → k < length vs → pos 0 <ℤ right_of (vertex vs k) p) → IsOutOfRing vs p
  beyond_right f = record {
    off = λ o. (let a = f o.edge o.below in let b = f (next vs o.edge) (next-below o.edge o.below) in let g = o.on.across.greatest in omega (arith, ints, clamps));
    even = (let e = none_along (λ k h. count_right _ _ p w (f k h) (f (next vs k) (next-below k h))) (length vs) (omega arith) in omega arith);
  }

  pub beyond_left : ((k : ℕ) → k < length vs → right_of (vertex vs k) p <ℤ pos 0) → IsOutOfRing vs p
  beyond_left f = record {
    off = λ o. (let a = f o.edge o.below in let b = f (next vs o.edge) (next-below o.edge o.below) in let g = o.on.across.least in omega (arith, ints, clamps));
    even = even_whole (λ k h. count_left _ _ p w (f k h) (f (next vs k) (next-below k h))) (length vs) refl;
  }

  under_all : (ua ub r : Bool) → ua ≡ true → ub ≡ true → count_of ua ub r ≡ 0
  under_all ua ub r e f = rw (e, f) refl

  over_all : (ua ub r : Bool) → ua ≡ false → ub ≡ false → count_of ua ub r ≡ 0
  over_all ua ub r e f = rw (e, f) refl

  pub beyond_top : ((k : ℕ) → k < length vs → pos 0 <ℤ above (vertex vs k) p) → IsOutOfRing vs p
  beyond_top f = record {
    off = λ o. (let a = f o.edge o.below in let b = f (next vs o.edge) (next-below o.edge o.below) in let g = o.on.along.greatest in omega (arith, ints, clamps));
    even = (let e = none_along (λ k h. (let a = f k h in let b = f (next vs k) (next-below k h) in under_all (is_under (vertex vs k) p) (is_under (vertex vs (next vs k)) p) _ (sym (omega (arith, ints))) (sym (omega (arith, ints))))) (length vs) (omega arith) in omega arith);
  }

  pub beyond_bottom : ((k : ℕ) → k < length vs → above (vertex vs k) p <ℤ pos 0) → IsOutOfRing vs p
  beyond_bottom f = record {
    off = λ o. (let a = f o.edge o.below in let b = f (next vs o.edge) (next-below o.edge o.below) in let g = o.on.along.least in omega (arith, ints, clamps));
    even = (let e = none_along (λ k h. (let a = f k h in let b = f (next vs k) (next-below k h) in over_all (is_under (vertex vs k) p) (is_under (vertex vs (next vs k)) p) _ (sym (omega (arith, ints))) (sym (omega (arith, ints))))) (length vs) (omega arith) in omega arith);
  }
