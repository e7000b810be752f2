-- An edge that a segment does not meet: the two ends of the segment count it alike, but for the ends of the edge that lie at the right of the segment between its heights.
use Rattle.std.proofs.Common.{◌≡◌, ℕ, ◌+◌, ◌%◌, Bool, true, false, cond, refl, sym, ap, ◌∙◌, subst, arith}
use Rattle.std.specs.Prelude.{int_lt, int_le}
use Rattle.std.proofs.lemmas.Bool.{false≢true}
use lib.IntN.{ℤ, pos, ◌-ℤ◌, ◌*ℤ◌, neg_ℤ}
use lib.Signed.{◌<ℤ◌, ◌≤ℤ◌}
use borrow.Author.Differences.{ints}
use Rattle.std.proofs.lemmas.Int.{by_lt_z}
use Rattle.poly_exact.specs.declared.points.Point.{Point}
use Rattle.poly_exact.specs.Places.{Place, above, turn, is_under, is_right, bit, counted, between, IsClear}
use Rattle.poly_exact.proofs.Whole.{weak, expand, polys, mul-nonneg, nonneg-of-mul}
use Rattle.poly_exact.proofs.Meetings.{across_left, across_right, end_left, end_right, start_left, start_right, whole_left, whole_right}
use Rattle.poly_exact.proofs.Crossings.{side, plane_first, plane_second, meets_rising, between_from, between_back, turn-reversed, IsClear-reversed, level_side, on_level}

-- ---- by tests alone

abbrev pub count_of : Bool → Bool → Bool → ℕ
count_of ua ub r = cond ua (cond ub 0 (bit r)) (cond ub (bit r) 0)

-- 1 where the vertex is above the first place, not above the second, and at the right
abbrev pub inside_of : Bool → Bool → Bool → ℕ
inside_of up uq s = cond up 0 (cond uq (bit s) 0)

twice : (r s t : Bool) → r ≡ s → (bit r + bit s) % 2 ≡ 0
twice r true t e = rw e refl
twice r false t e = rw e refl

law_of : (ap bp aq bq rp rq sa sb : Bool)
    → (bp ≡ true → ap ≡ true) → (bq ≡ true → aq ≡ true) → (ap ≡ true → aq ≡ true) → (bp ≡ true → bq ≡ true)
    → (ap ≡ true → bp ≡ false → bq ≡ false → rp ≡ rq)
    → (ap ≡ true → bp ≡ false → bq ≡ true → rp ≡ sb)
    → (ap ≡ false → aq ≡ true → bq ≡ false → rq ≡ sa)
    → (ap ≡ false → bp ≡ false → aq ≡ true → bq ≡ true → sa ≡ sb)
    → (count_of ap bp rp + count_of aq bq rq + inside_of ap aq sa + inside_of bp bq sb) % 2 ≡ 0
law_of true true true true rp rq sa sb a b c d e f g h = refl
law_of true true true false rp rq sa sb a b c d e f g h = absurd (false≢true (d refl))
law_of true true false bq rp rq sa sb a b c d e f g h = absurd (false≢true (c refl))
law_of true false true true rp rq sa sb a b c d e f g h = rw (f refl refl refl) (omega arith)
law_of true false true false rp rq sa sb a b c d e f g h = rw (e refl refl refl) (omega arith)
law_of true false false bq rp rq sa sb a b c d e f g h = absurd (false≢true (c refl))
law_of false true aq bq rp rq sa sb a b c d e f g h = absurd (false≢true (a refl))
law_of false false true true rp rq sa sb a b c d e f g h = rw (h refl refl refl refl) (omega arith)
law_of false false true false rp rq sa sb a b c d e f g h = rw (g refl refl refl) (omega arith)
law_of false false false true rp rq sa sb a b c d e f g h = absurd (false≢true (b refl))
law_of false false false false rp rq sa sb a b c d e f g h = refl

pub same_tests : (x y : Bool) → (x ≡ true → y ≡ false → ⊥) → (x ≡ false → y ≡ true → ⊥) → x ≡ y
same_tests true true f g = refl
same_tests true false f g = absurd (f refl refl)
same_tests false true f g = absurd (g refl refl)
same_tests false false f g = refl

-- ---- the vertex that is no higher

abbrev pub inside : Place → Place → Point → ℕ
inside p q v = inside_of (is_under v p) (is_under v q) (int_lt (side p q v) (pos 0))

pub record AreOrdered (p q : Place) : Type 0 where
  pub first : pos 0 <ℤ p.w
  pub second : pos 0 <ℤ q.w
  pub order : (p.y *ℤ q.w) ≤ℤ (q.y *ℤ p.w)

pub under_yes : (a : Point) (p : Place) → is_under a p ≡ true → pos 0 ≤ℤ above a p
under_yes a p e = omega (arith, ints)

pub under_no : (a : Point) (p : Place) → is_under a p ≡ false → above a p <ℤ pos 0
under_no a p e = omega (arith, ints)

pub yes_under : (a : Point) (p : Place) → pos 0 ≤ℤ above a p → is_under a p ≡ true
yes_under a p h = sym (omega (arith, ints))

-- the drop from one end to the other, by the place's weight
pub drop_of : (a b : Point) (p : Place) → above a p -ℤ above b p ≡ p.w *ℤ (b.y -ℤ a.y)
drop_of a b p = simp expand (omega (arith, polys))

under_lower : (a b : Point) (p : Place) → pos 0 <ℤ p.w → pos 0 ≤ℤ (b.y -ℤ a.y) → is_under b p ≡ true → is_under a p ≡ true
under_lower a b p w h e = yes_under a p (omega (arith, ints, drop_of a b p, mul-nonneg p.w (b.y -ℤ a.y) (weak w) h, under_yes b p e))

pub climb : (a : Point) (p q : Place) → p.w *ℤ above a q -ℤ q.w *ℤ above a p ≡ q.y *ℤ p.w -ℤ p.y *ℤ q.w
climb a p q = simp expand (omega (arith, polys))

under_higher : (a : Point) (p q : Place) → AreOrdered p q → is_under a p ≡ true → is_under a q ≡ true
under_higher a p q o e =
    yes_under a q (nonneg-of-mul p.w (above a q) o.first
    (let k = o.order in omega (arith, ints, climb a p q, mul-nonneg q.w (above a p) (weak o.second) (under_yes a p e))))

-- ---- edges that rise

pub right_rising : (a b : Point) (p : Place) → pos 0 <ℤ (b.y -ℤ a.y) → is_right a b p ≡ int_lt (pos 0) (turn a b p)
right_rising a b p h =
    let e : int_lt a.y b.y ≡ true = sym (omega (arith, ints)) in
    ap (λ t. cond t (int_lt (pos 0) (turn a b p)) (int_lt (turn a b p) (pos 0))) e

pub pos_yes : (z : ℤ) → int_lt (pos 0) z ≡ true → pos 0 <ℤ z
pos_yes z e = omega (arith, ints)

pub pos_no : (z : ℤ) → int_lt (pos 0) z ≡ false → z ≤ℤ pos 0
pos_no z e = omega (arith, ints)

pub neg_yes : (z : ℤ) → int_lt z (pos 0) ≡ true → z <ℤ pos 0
neg_yes z e = omega (arith, ints)

pub neg_no : (z : ℤ) → int_lt z (pos 0) ≡ false → pos 0 ≤ℤ z
neg_no z e = omega (arith, ints)

module _ (a b : Point) (p q : Place) (rise : pos 0 <ℤ (b.y -ℤ a.y)) (o : AreOrdered p q) (c : IsClear p q a b) where
  pq_alike : is_under a p ≡ true → is_under b p ≡ false → is_under b q ≡ false → int_lt (pos 0) (turn a b p) ≡ int_lt (pos 0) (turn a b q)
  pq_alike x y z = same_tests _ _
      (λ t f. meets_rising a b p q rise c (across_left _ _ _ _ _ _ _ _ _ rise (plane_first a b p q) (plane_second a b p q)
      (under_yes a p x) (under_yes a q (under_higher a p q o x)) (weak (under_no b p y)) (weak (under_no b q z)) (pos_yes _ t) (pos_no _ f)))
      (λ f t. meets_rising a b p q rise c (across_right _ _ _ _ _ _ _ _ _ rise (plane_first a b p q) (plane_second a b p q)
      (under_yes a p x) (under_yes a q (under_higher a p q o x)) (weak (under_no b p y)) (weak (under_no b q z)) (pos_no _ f) (pos_yes _ t)))

  pb_alike : is_under a p ≡ true → is_under b p ≡ false → is_under b q ≡ true → int_lt (pos 0) (turn a b p) ≡ int_lt (side p q b) (pos 0)
  pb_alike x y z = same_tests _ _
      (λ t f. meets_rising a b p q rise c (end_left _ _ _ _ _ _ _ _ _ rise (plane_first a b p q) (plane_second a b p q)
      (under_yes a p x) (under_yes a q (under_higher a p q o x)) (under_no b p y) (under_yes b q z) (pos_yes _ t) (neg_no _ f)))
      (λ f t. meets_rising a b p q rise c (end_right _ _ _ _ _ _ _ _ _ rise (plane_first a b p q) (plane_second a b p q)
      (under_yes a p x) (under_yes a q (under_higher a p q o x)) (under_no b p y) (under_yes b q z) (pos_no _ f) (neg_yes _ t)))

  aq_alike : is_under a p ≡ false → is_under a q ≡ true → is_under b q ≡ false → int_lt (pos 0) (turn a b q) ≡ int_lt (side p q a) (pos 0)
  aq_alike x y z =
      let b_p : above b p <ℤ pos 0 = omega (arith, ints, drop_of a b p, mul-nonneg p.w (b.y -ℤ a.y) (weak o.first) (weak rise), under_no a p x) in
      same_tests _ _
      (λ t f. meets_rising a b p q rise c (start_right _ _ _ _ _ _ _ _ _ rise (plane_first a b p q) (plane_second a b p q)
      (under_no a p x) (under_yes a q y) (weak b_p) (weak (under_no b q z)) (neg_no _ f) (pos_yes _ t)))
      (λ f t. meets_rising a b p q rise c (start_left _ _ _ _ _ _ _ _ _ rise (plane_first a b p q) (plane_second a b p q)
      (under_no a p x) (under_yes a q y) (weak b_p) (weak (under_no b q z)) (neg_yes _ t) (pos_no _ f)))

  ab_alike : is_under a p ≡ false → is_under b p ≡ false → is_under a q ≡ true → is_under b q ≡ true → int_lt (side p q a) (pos 0) ≡ int_lt (side p q b) (pos 0)
  ab_alike x y z w = same_tests _ _
      (λ t f. meets_rising a b p q rise c (whole_left _ _ _ _ _ _ _ _ _ rise (plane_first a b p q) (plane_second a b p q) p.w q.w o.first o.second (drop_of a b p) (drop_of a b q)
      (under_no a p x) (under_yes a q z) (under_no b p y) (under_yes b q w) (neg_yes _ t) (neg_no _ f)))
      (λ f t. meets_rising a b p q rise c (whole_right _ _ _ _ _ _ _ _ _ rise (plane_first a b p q) (plane_second a b p q) p.w q.w o.first o.second (drop_of a b p) (drop_of a b q)
      (under_no a p x) (under_yes a q z) (under_no b p y) (under_yes b q w) (neg_no _ f) (neg_yes _ t)))

  rising_law : (counted a b p + counted a b q + inside p q a + inside p q b) % 2 ≡ 0
  rising_law = rw (right_rising a b p rise, right_rising a b q rise)
      (law_of (is_under a p) (is_under b p) (is_under a q) (is_under b q) (int_lt (pos 0) (turn a b p)) (int_lt (pos 0) (turn a b q)) (int_lt (side p q a) (pos 0)) (int_lt (side p q b) (pos 0))
      (under_lower a b p o.first (weak rise)) (under_lower a b q o.second (weak rise)) (under_higher a p q o) (under_higher b p q o)
      pq_alike pb_alike aq_alike ab_alike)

-- ---- edges of one height

level_of : (up uq rp rq sa sb : Bool) → (up ≡ false → uq ≡ true → sa ≡ sb)
    → (count_of up up rp + count_of uq uq rq + inside_of up uq sa + inside_of up uq sb) % 2 ≡ 0
level_of true true rp rq sa sb h = refl
level_of true false rp rq sa sb h = refl
level_of false true rp rq sa sb h = rw (h refl refl) (omega arith)
level_of false false rp rq sa sb h = refl

level_other : (a b : Point) (p q : Place) → b.y ≡ a.y → (between (above a q) (neg_ℤ (above a p)) p q).x -ℤ b.x *ℤ (between (above a q) (neg_ℤ (above a p)) p q).w ≡ side p q b
level_other a b p q e =
    let u : above b p ≡ above a p = ap (λ h. p.y -ℤ h *ℤ p.w) e in
    let v : above b q ≡ above a q = ap (λ h. q.y -ℤ h *ℤ q.w) e in
    subst (λ h. (between (above a q) (neg_ℤ h) p q).x -ℤ b.x *ℤ (between (above a q) (neg_ℤ h) p q).w ≡ side p q b) u
    (subst (λ h. (between h (neg_ℤ (above b p)) p q).x -ℤ b.x *ℤ (between h (neg_ℤ (above b p)) p q).w ≡ side p q b) v (level_side b p q))

level_law : (a b : Point) (p q : Place) → b.y ≡ a.y → AreOrdered p q → IsClear p q a b → (counted a b p + counted a b q + inside p q a + inside p q b) % 2 ≡ 0
level_law a b p q e o c =
    let up : is_under b p ≡ is_under a p = ap (λ h. int_le (h *ℤ p.w) p.y) e in
    let uq : is_under b q ≡ is_under a q = ap (λ h. int_le (h *ℤ q.w) q.y) e in
    rw (up, uq) (level_of (is_under a p) (is_under a q) (is_right a b p) (is_right a b q) (int_lt (side p q a) (pos 0)) (int_lt (side p q b) (pos 0))
    (λ x y.
    let za = level_side a p q in
    let zb = level_other a b p q e in
    same_tests _ _
    (λ t f. on_level a b p q e (under_no a p x) (under_yes a q y)
    (let h = neg_yes (side p q a) t in let k = neg_no (side p q b) f in between_back _ _ _ (omega (arith, ints)) (omega (arith, ints))) c)
    (λ f t. on_level a b p q e (under_no a p x) (under_yes a q y)
    (let h = neg_yes (side p q b) t in let k = neg_no (side p q a) f in between_from _ _ _ (omega (arith, ints)) (omega (arith, ints))) c)))

-- ---- edges that fall, and all

count-reversed : (ua ub r s : Bool) → r ≡ s → count_of ub ua r ≡ count_of ua ub s
count-reversed true true r s e = refl
count-reversed true false r s e = ap bit e
count-reversed false true r s e = ap bit e
count-reversed false false r s e = refl

pub counted-reversed : (a b : Point) (p : Place) → a.y <ℤ b.y → counted b a p ≡ counted a b p
counted-reversed a b p h =
    let e : int_lt a.y b.y ≡ true = sym (omega (arith, ints)) in
    let f : int_lt b.y a.y ≡ false = sym (omega (arith, ints)) in
    let g : int_lt (turn b a p) (pos 0) ≡ int_lt (pos 0) (turn a b p) = same_tests _ _
    (λ t n. let h = neg_yes (turn b a p) t in let k = pos_no (turn a b p) n in absurd (omega (arith, ints, turn-reversed a b p)))
    (λ n t. let h = neg_no (turn b a p) n in let k = pos_yes (turn a b p) t in absurd (omega (arith, ints, turn-reversed a b p))) in
    let r : is_right b a p ≡ is_right a b p = ap (λ t. cond t (int_lt (pos 0) (turn b a p)) (int_lt (turn b a p) (pos 0))) f ∙ g ∙ sym (ap (λ t. cond t (int_lt (pos 0) (turn a b p)) (int_lt (turn a b p) (pos 0))) e) in
    count-reversed (is_under a p) (is_under b p) (is_right b a p) (is_right a b p) r

pub edge_law : (a b : Point) (p q : Place) → AreOrdered p q → IsClear p q a b → (counted a b p + counted a b q + inside p q a + inside p q b) % 2 ≡ 0
edge_law a b p q o c = by_lt_z a.y b.y
    (λ h. rising_law a b p q (omega (arith, ints)) o c)
    (λ h. by_lt_z b.y a.y
    (λ k. let r = rising_law b a p q (omega (arith, ints)) o (IsClear-reversed p q a b c) in
    rw (counted-reversed b a p k, counted-reversed b a q k) (omega arith))
    (λ k. level_law a b p q (omega (arith, ints)) o c))
