-- A list of vertices is a simple ring where each pair of edges is good.
use Rattle.std.proofs.Common.{◌≡◌, refl, sym, ap, ◌∙◌, subst, arith, inl, inr, ℕ, suc, ◌+◌, ◌<◌, ◌≤◌, ◌%◌, List, length, Bool, true, false}
use Rattle.std.specs.Prelude.{IsTrue, ◌↔◌, not, nat_eq}
use lib.IntN.{pos, ◌+ℤ◌, *ℤ-zero}
use lib.Signed.{◌<ℤ◌}
use borrow.Author.Differences.{ints}
use Rattle.std.proofs.lemmas.Bool.{false≢true, cases_lt, eqb-true, eq-eqb}
use Rattle.poly_exact.specs.declared.points.Point.{Point}
use Rattle.poly_exact.specs.declared.points.HalfPoint.{HalfPoint}
use Rattle.poly_exact.specs.Places.{Place, IsOnEdge, IsInside, bit, counted, reach}
use Rattle.poly_exact.specs.Rings.{vertex, next, crossings, IsAt, IsSimple}
use Rattle.poly_exact.specs.Small.{place}
use Rattle.poly_exact.specs.Located.{IsPassed}
use Rattle.poly_exact.specs.Met.{AreApart, DoTouch, DoCross, DoShare, Crossing, IsSame}
use Rattle.poly_exact.specs.West.{IsWest}
use Rattle.poly_exact.specs.Checks.{AreProper, IsGoodPair, AreGoodTo, AreAllGoodTo, IsFirstBad, IsBadOf, IsParity}
use Rattle.poly_exact.proofs.Inner.{middle, middle_on, middle-swap, reach_middle}
use Rattle.poly_exact.proofs.VertexPlaces.{at, first_on, second_on}
use Rattle.poly_exact.proofs.Pieces.{reach_at}
use Rattle.poly_exact.proofs.Pairs.{reach_first}
use Rattle.poly_exact.proofs.West.{counted-line}
use Rattle.poly_exact.proofs.West.{count_along}

-- ---- one pair

module _ (vs : List Point) (e f : ℕ) where
  abbrev pub a : Point
  a = vertex vs e

  abbrev pub b : Point
  b = vertex vs (next vs e)

  abbrev pub c : Point
  c = vertex vs f

  abbrev pub d : Point
  d = vertex vs (next vs f)

  pub good_apart : AreApart a b c d → IsGoodPair vs e f
  good_apart h = record { meets = λ p w i j. absurd (h.none p w i j) }

  at_of : (v : Point) (p : Place) → IsSame p (at v) → IsAt v p
  at_of v p h = let x = h.across in let y = h.along in record { across = omega (arith, ints); along = omega (arith, ints) }

  one : pos 0 <ℤ pos 1
  one = omega (arith, ints)

  pub good_next : DoTouch a b c d → f ≡ next vs e → IsGoodPair vs e f
  good_next t n = record {
    meets = λ p w i j. inl (n, at_of c p (t.lone.same p (at c) w one i j (subst (λ k. IsOnEdge a b (at (vertex vs k))) (sym n) (second_on a b)) (first_on c d)));
  }

  pub good_last : DoTouch a b c d → e ≡ next vs f → IsGoodPair vs e f
  good_last t n = record {
    meets = λ p w i j. inr (n, at_of a p (t.lone.same p (at a) w one i j (first_on a b) (subst (λ k. IsOnEdge c d (at (vertex vs k))) (sym n) (second_on c d))));
  }

  not_first : (u v : Point) (p : Place) → IsInside u v p → IsAt u p → ⊥
  not_first u v p i h =
      let r : reach u v p ≡ pos 0 = reach_at u v u p h ∙ rw (reach_first u v) (*ℤ-zero p.w) in
      let x = i.from_first in omega (arith, ints)

  pub bad_crossing : Crossing a b c d → IsGoodPair vs e f → ⊥
  bad_crossing x g = elim (g.meets x.m x.weight x.first.on x.second.on) [ inl y ↦ not_first c d x.m x.second y.1 | inr y ↦ not_first a b x.m x.first y.1 ]

-- ---- tests, with the numbers of the next vertices as they were read

eq_yes : (x y : ℕ) → x ≡ y → nat_eq x y ≡ true
eq_yes x y e = eq-eqb x y e

eq_of : (x y : ℕ) → nat_eq x y ≡ true → x ≡ y
eq_of x y e = eqb-true x y e

module _ (vs : List Point) (e f g h : ℕ) (p : g ≡ next vs e) (q : h ≡ next vs f) where
  read : (r : Point → Point → Point → Point → Type 0) → r (vertex vs e) (vertex vs g) (vertex vs f) (vertex vs h) → r (vertex vs e) (vertex vs (next vs e)) (vertex vs f) (vertex vs (next vs f))
  read r x = subst (λ j. r (vertex vs e) (vertex vs (next vs e)) (vertex vs f) (vertex vs j)) q (subst (λ i. r (vertex vs e) (vertex vs i) (vertex vs f) (vertex vs h)) p x)

  pub pair_apart : AreApart (vertex vs e) (vertex vs g) (vertex vs f) (vertex vs h) → IsTrue true ↔ IsGoodPair vs e f
  pair_apart x = (λ t. good_apart vs e f (read AreApart x), λ k. refl)

  pub pair_next : DoTouch (vertex vs e) (vertex vs g) (vertex vs f) (vertex vs h) → f ≡ g → IsTrue (nat_eq f g) ↔ IsGoodPair vs e f
  pair_next x n = (λ t. good_next vs e f (read DoTouch x) (n ∙ p), λ k. eq_yes f g n)

  pub pair_last : DoTouch (vertex vs e) (vertex vs g) (vertex vs f) (vertex vs h) → (f ≡ g → ⊥) → IsTrue (nat_eq e h) ↔ IsGoodPair vs e f
  pair_last x n = (
    λ t. good_last vs e f (read DoTouch x) (eq_of e h t ∙ q),
    λ k. elim (k.meets (read DoTouch x).m (read DoTouch x).weight (read DoTouch x).first (read DoTouch x).second) [ inl y ↦ absurd (n (y.0 ∙ sym p)) | inr y ↦ eq_yes e h (y.0 ∙ sym q) ],
  )

  pub pair_cross : DoCross (vertex vs e) (vertex vs g) (vertex vs f) (vertex vs h) → IsTrue false ↔ IsGoodPair vs e f
  pair_cross x = (λ t. absurd (false≢true t), λ k. absurd (bad_crossing vs e f (read DoCross x).crossing k))

  pub pair_share : DoShare (vertex vs e) (vertex vs g) (vertex vs f) (vertex vs h) → IsTrue false ↔ IsGoodPair vs e f
  pair_share x = (λ t. absurd (false≢true t), λ k. absurd (bad_crossing vs e f (read DoShare x).crossing k))

pub not_good : (vs : List Point) (e f : ℕ) (t : Bool) → IsTrue t ↔ IsGoodPair vs e f → t ≡ false → IsGoodPair vs e f → ⊥
not_good vs e f t h n g = false≢true (sym n ∙ h.1 g)

-- ---- the loops

pub good_none : (vs : List Point) (e : ℕ) → AreGoodTo vs e (e + 1)
good_none vs e = record { each = λ f h k. absurd (omega arith) }

pub good_more : (vs : List Point) (e k : ℕ) → IsGoodPair vs e k → AreGoodTo vs e k → AreGoodTo vs e (k + 1)
good_more vs e k g h = record {
  each = λ f x y. elim (cases_lt f k) [ inl i ↦ h.each f x i | inr i ↦ (let q : f ≡ k = omega arith in subst (λ j. IsGoodPair vs e j) (sym q) g) ];
}

pub good_of : (vs : List Point) (e f : ℕ) (t : Bool) → IsTrue t ↔ IsGoodPair vs e f → t ≡ true → IsGoodPair vs e f
good_of vs e f t h n = h.0 n

pub bad_of : (vs : List Point) (e f : ℕ) (t : Bool) → e + 1 ≤ f → f < length vs → IsTrue t ↔ IsGoodPair vs e f → t ≡ false → AreGoodTo vs e f → (e ≡ e) × IsBadOf vs e f
bad_of vs e f t o b h n g = (refl, record { order = omega arith; below = b; bad = not_good vs e f t h n; before = g })

pub first_bad : (vs : List Point) (e f : ℕ) → IsBadOf vs e f → AreAllGoodTo vs e → IsFirstBad vs e f
first_bad vs e f h g = record { order = h.order; below = h.below; bad = h.bad; before = h.before; earlier = g }

pub good_end : (vs : List Point) (e k : ℕ) → length vs ≤ k → AreGoodTo vs e k → AreGoodTo vs e (length vs)
good_end vs e k l h = record { each = λ f x y. h.each f x (omega arith) }

pub all_good_none : (vs : List Point) → AreAllGoodTo vs 0
all_good_none vs = record { each = λ e h. absurd (omega arith) }

pub all_good_more : (vs : List Point) (k : ℕ) → AreGoodTo vs k (length vs) → AreAllGoodTo vs k → AreAllGoodTo vs (k + 1)
all_good_more vs k g h = record {
  each = λ e x. elim (cases_lt e k) [ inl i ↦ h.each e i | inr i ↦ (let q : e ≡ k = omega arith in subst (λ j. AreGoodTo vs j (length vs)) (sym q) g) ];
}

pub simple_end : (vs : List Point) (k : ℕ) → length vs ≤ k → AreProper vs → AreAllGoodTo vs k → IsSimple vs
simple_end vs k l p h = record {
  proper = p.each;
  apart = λ i j x y q w s t. ((h.each i (omega arith)).each j x y).meets q w s t;
}

-- ---- parities

pub parity_none : (vs : List Point) (p : Place) → IsParity vs p 0 false
unfolding crossings
parity_none vs p = record { parity = refl }

step_parity : (vs : List Point) (p : Place) (k : ℕ) (b : Bool) → (crossings vs p k + counted (vertex vs k) (vertex vs (next vs k)) p) % 2 ≡ bit b → IsParity vs p (k + 1) b
unfolding crossings
step_parity vs p k b h = let s : k + 1 ≡ suc k = omega arith in rw s (record { parity = h })

flip_bit : (m n : ℕ) (odd : Bool) → n ≡ 1 → m % 2 ≡ bit odd → (m + n) % 2 ≡ bit (not odd)
flip_bit m n true e f = omega arith
flip_bit m n false e f = omega arith

keep_bit : (m n : ℕ) (odd : Bool) → n ≡ 0 → m % 2 ≡ bit odd → (m + n) % 2 ≡ bit odd
keep_bit m n odd e f = omega arith

pub parity_left : (vs : List Point) (p : Place) (k n : ℕ) (odd : Bool) → n ≡ next vs k → IsPassed (vertex vs k) (vertex vs n) p 1 → IsParity vs p k odd → IsParity vs p (k + 1) (not odd)
parity_left vs p k n odd e h g = let h' = subst (λ j. IsPassed (vertex vs k) (vertex vs j) p 1) e h in step_parity vs p k (not odd) (flip_bit _ _ odd h'.counts g.parity)

pub parity_past : (vs : List Point) (p : Place) (k n : ℕ) (odd : Bool) → n ≡ next vs k → IsPassed (vertex vs k) (vertex vs n) p 0 → IsParity vs p k odd → IsParity vs p (k + 1) odd
parity_past vs p k n odd e h g = let h' = subst (λ j. IsPassed (vertex vs k) (vertex vs j) p 0) e h in step_parity vs p k odd (keep_bit _ _ odd h'.counts g.parity)

pub parity_over : (vs : List Point) (p : Place) (k n : ℕ) (odd : Bool) → n ≡ next vs k → IsOnEdge (vertex vs k) (vertex vs n) p → IsParity vs p k odd → IsParity vs p (k + 1) odd
parity_over vs p k n odd e h g = let h' = subst (λ j. IsOnEdge (vertex vs k) (vertex vs j) p) e h in step_parity vs p k odd (keep_bit _ _ odd (counted-line _ _ p h'.line) g.parity)

pub parity_end : (vs : List Point) (p : Place) (k : ℕ) (odd : Bool) → length vs ≤ k → k ≤ length vs → IsParity vs p k odd → IsParity vs p (length vs) odd
parity_end vs p k odd x y h = let i : k ≡ length vs = omega arith in subst (λ j. IsParity vs p j odd) i h

double_not : (t : Bool) → bit t ≡ bit (not (not t))
double_not true = refl
double_not false = refl

-- the left side of an edge, from the parity at its middle
pub west_is : (vs : List Point) (e n : ℕ) (p : HalfPoint) (odd : Bool) → IsSimple vs → e < length vs → n ≡ next vs e → p.x ≡ (vertex vs e).x +ℤ (vertex vs n).x → p.y ≡ (vertex vs e).y +ℤ (vertex vs n).y
    → IsParity vs (place p) (length vs) odd → IsWest vs e (not odd)
west_is vs e n p odd s be en ex ey h =
    let u = vertex vs e in let v = vertex vs (next vs e) in
    let ex' : p.x ≡ u.x +ℤ v.x = ex ∙ ap (λ j. u.x +ℤ (vertex vs j).x) en in
    let ey' : p.y ≡ u.y +ℤ v.y = ey ∙ ap (λ j. u.y +ℤ (vertex vs j).y) en in
    let same : place p ≡ middle u v = λ i. record { x = ex' i; y = ey' i; w = pos 2 } in
    let g = subst (λ q. IsParity vs q (length vs) odd) same h in
    let d = s.proper e be in
    let inside : IsInside u v (middle u v) = record { on = middle_on u v; from_first = reach_middle u v d; from_second = subst (λ q. pos 0 <ℤ reach v u q) (middle-swap v u) (reach_middle v u (λ k. d (sym k))) } in
    let two : pos 0 <ℤ pos 2 = omega (arith, ints) in
    record { counts = λ m w i. count_along vs s e be m (middle u v) w two i inside ∙ g.parity ∙ double_not odd }
