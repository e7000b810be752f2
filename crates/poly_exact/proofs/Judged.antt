-- What a spot's turn, heights and box tell of an edge.
use Rattle.std.proofs.Common.{◌≡◌, ℕ, suc, ◌+◌, ◌<◌, ◌%◌, List, subst, inl, inr, Bool, true, false, cond, refl, sym, ap, ◌∙◌, arith, w64, to_z, of_z}
use Rattle.std.specs.Prelude.{not, int_lt, int_le, FitsSigned, ◌&&◌}
use lib.IntN.{ℤ, pos, ◌*ℤ◌, neg_ℤ}
use lib.Signed.{mag, ◌≤ℤ◌, ◌<ℤ◌}
use borrow.Author.Differences.{ints}
use Rattle.std.proofs.lemmas.Int.{by_lt_z, clamps, to_z-of_z}
use Rattle.std.proofs.lemmas.Bool.{false≢true, cases_lt}
use Rattle.poly_exact.specs.declared.points.Point.{Point}
use Rattle.poly_exact.specs.Places.{Place, above, turn, IsBetween, IsOnEdge, counted, is_under, bit}
use Rattle.poly_exact.specs.Small.{IsShort, IsSmall, IsSmallHalfPoint, place}
use Rattle.poly_exact.specs.declared.points.HalfPoint.{HalfPoint}
use Rattle.poly_exact.specs.Located.{IsPassed, IsPassedBy, IsRayHit, judged, is_within, is_boxed}
use Rattle.poly_exact.specs.Rings.{vertex, next, crossings}
use Rattle.poly_exact.proofs.EdgeLaw.{count_of, same_tests}
use Rattle.poly_exact.proofs.West.{counted-line}

-- ---- between

read : (a : ℤ) → FitsSigned w64 a → to_z w64 (of_z w64 a) ≡ a
read a f = to_z-of_z w64 a f

twice_read : (a : ℤ) → IsShort a → to_z w64 (of_z w64 (to_z w64 (of_z w64 a) *ℤ pos 2)) ≡ a *ℤ pos 2
twice_read a h =
    let f : FitsSigned w64 a = omega (arith, ints) in
    (λ i. to_z w64 (of_z w64 (read a f i *ℤ pos 2))) ∙ read (a *ℤ pos 2) (omega (arith, ints))

within_up : (u v z : ℤ) (t s : Bool) → int_le u v ≡ true → int_le (u *ℤ pos 2) z ≡ true → is_within u v z ≡ int_le z (v *ℤ pos 2)
within_up u v z t s e f = rw (e, f) refl

pub up_read : (u v z : ℤ) → IsShort u → IsShort v → FitsSigned w64 z → int_le (to_z w64 (of_z w64 u)) (to_z w64 (of_z w64 v)) ≡ true → int_le (to_z w64 (of_z w64 (to_z w64 (of_z w64 u) *ℤ pos 2))) (to_z w64 (of_z w64 z)) ≡ true
    → int_le (to_z w64 (of_z w64 z)) (to_z w64 (of_z w64 (to_z w64 (of_z w64 v) *ℤ pos 2))) ≡ is_within u v z
up_read u v z su sv fz e f =
    let fu : FitsSigned w64 u = omega (arith, ints) in
    let fv : FitsSigned w64 v = omega (arith, ints) in
    let e' = rw (read u fu, read v fv) at e in
    let f' = rw (twice_read u su, read z fz) at f in
    rw (twice_read v sv, read z fz) (sym (within_up u v z true true e' f'))

within_down : (u v z : ℤ) → int_le u v ≡ false → int_le (v *ℤ pos 2) z ≡ true → is_within u v z ≡ int_le z (u *ℤ pos 2)
within_down u v z e f = rw (e, f) refl

pub down_read : (u v z : ℤ) → IsShort u → IsShort v → FitsSigned w64 z → int_le (to_z w64 (of_z w64 u)) (to_z w64 (of_z w64 v)) ≡ false → int_le (to_z w64 (of_z w64 (to_z w64 (of_z w64 v) *ℤ pos 2))) (to_z w64 (of_z w64 z)) ≡ true
    → int_le (to_z w64 (of_z w64 z)) (to_z w64 (of_z w64 (to_z w64 (of_z w64 u) *ℤ pos 2))) ≡ is_within u v z
down_read u v z su sv fz e f =
    let fu : FitsSigned w64 u = omega (arith, ints) in
    let fv : FitsSigned w64 v = omega (arith, ints) in
    let e' = rw (read u fu, read v fv) at e in
    let f' = rw (twice_read v sv, read z fz) at f in
    rw (twice_read u su, read z fz) (sym (within_down u v z e' f'))

-- what `is_within` means
tests : (u v z : ℤ) (t r s r' s' : Bool) → int_le u v ≡ t → int_le (u *ℤ pos 2) z ≡ r → int_le z (v *ℤ pos 2) ≡ s → int_le (v *ℤ pos 2) z ≡ r' → int_le z (u *ℤ pos 2) ≡ s'
    → cond t (cond r s false) (cond r' s' false) ≡ true → IsBetween (u *ℤ pos 2) (v *ℤ pos 2) z
tests u v z true true true r' s' a b c d e h = record { least = omega (arith, ints, clamps); greatest = omega (arith, ints, clamps) }
tests u v z true true false r' s' a b c d e h = absurd (false≢true h)
tests u v z true false s r' s' a b c d e h = absurd (false≢true h)
tests u v z false r s true true a b c d e h = record { least = omega (arith, ints, clamps); greatest = omega (arith, ints, clamps) }
tests u v z false r s true false a b c d e h = absurd (false≢true h)
tests u v z false r s false s' a b c d e h = absurd (false≢true h)

pub within_yes : (u v z : ℤ) → is_within u v z ≡ true → IsBetween (u *ℤ pos 2) (v *ℤ pos 2) z
within_yes u v z h = tests u v z (int_le u v) _ _ _ _ refl refl refl refl refl h

pub yes_within : (u v z : ℤ) → IsBetween (u *ℤ pos 2) (v *ℤ pos 2) z → is_within u v z ≡ true
yes_within u v z b = let l = b.least in let g = b.greatest in by_lt_z v u
    (λ h. let e : int_le u v ≡ false = sym (omega (arith, ints)) in let f : int_le (v *ℤ pos 2) z ≡ true = sym (omega (arith, ints, clamps)) in let k : int_le z (u *ℤ pos 2) ≡ true = sym (omega (arith, ints, clamps)) in rw (e, f) k)
    (λ h. let e : int_le u v ≡ true = sym (omega (arith, ints)) in let f : int_le (u *ℤ pos 2) z ≡ true = sym (omega (arith, ints, clamps)) in let k : int_le z (v *ℤ pos 2) ≡ true = sym (omega (arith, ints, clamps)) in rw (e, f) k)

-- ---- judged by the turn and the heights

le_yes : (u v : ℤ) → int_le u v ≡ true → u ≤ℤ v
le_yes u v e = omega (arith, ints)

le_no : (u v : ℤ) → int_le u v ≡ false → v <ℤ u
le_no u v e = omega (arith, ints)

under_is : (a : Point) (p : Place) → is_under a p ≡ int_le (pos 0) (above a p)
under_is a p = same_tests _ _
    (λ t f. let x = le_yes (a.y *ℤ p.w) p.y t in let y = le_no (pos 0) (above a p) f in absurd (omega (arith, ints)))
    (λ f t. let x = le_no (a.y *ℤ p.w) p.y f in let y = le_yes (pos 0) (above a p) t in absurd (omega (arith, ints)))

module _ (a b : Point) (p : Place) where
  neg_case : (ua ub rise within : Bool) → (IsOnEdge a b p → ⊥) → counted a b p ≡ count_of ua ub (cond rise false true) → (t first second : ℤ) → int_lt t (pos 0) ≡ true → int_le (pos 0) first ≡ ua → int_le (pos 0) second ≡ ub → IsRayHit (judged t first second rise within) a b p
  neg_case true true r n off e t f s h i j = rw (h, i, j) (record { off = off; counts = e })
  neg_case true false true n off e t f s h i j = rw (h, i, j) (record { off = off; counts = e })
  neg_case true false false n off e t f s h i j = rw (h, i, j) (record { off = off; counts = e })
  neg_case false true true n off e t f s h i j = rw (h, i, j) (record { off = off; counts = e })
  neg_case false true false n off e t f s h i j = rw (h, i, j) (record { off = off; counts = e })
  neg_case false false r n off e t f s h i j = rw (h, i, j) (record { off = off; counts = e })

  pos_case : (ua ub rise within : Bool) → (IsOnEdge a b p → ⊥) → counted a b p ≡ count_of ua ub (cond rise true false) → (t first second : ℤ) → int_lt t (pos 0) ≡ false → int_lt (pos 0) t ≡ true → int_le (pos 0) first ≡ ua → int_le (pos 0) second ≡ ub → IsRayHit (judged t first second rise within) a b p
  pos_case true true r n off e t f s h k i j = rw (h, k, i, j) (record { off = off; counts = e })
  pos_case true false true n off e t f s h k i j = rw (h, k, i, j) (record { off = off; counts = e })
  pos_case true false false n off e t f s h k i j = rw (h, k, i, j) (record { off = off; counts = e })
  pos_case false true true n off e t f s h k i j = rw (h, k, i, j) (record { off = off; counts = e })
  pos_case false true false n off e t f s h k i j = rw (h, k, i, j) (record { off = off; counts = e })
  pos_case false false r n off e t f s h k i j = rw (h, k, i, j) (record { off = off; counts = e })

  zero_case : (within : Bool) → (within ≡ true → IsOnEdge a b p) → (within ≡ false → IsOnEdge a b p → ⊥) → counted a b p ≡ 0 → (t first second : ℤ) (rise : Bool) → int_lt t (pos 0) ≡ false → int_lt (pos 0) t ≡ false → IsRayHit (judged t first second rise within) a b p
  zero_case true on off e t f s r h k = rw (h, k) (on refl)
  zero_case false on off e t f s r h k = rw (h, k) (record { off = off refl; counts = e })

  as_counted : (rise lt gt : Bool) → int_lt a.y b.y ≡ rise → int_lt (turn a b p) (pos 0) ≡ lt → int_lt (pos 0) (turn a b p) ≡ gt → counted a b p ≡ count_of (int_le (pos 0) (above a p)) (int_le (pos 0) (above b p)) (cond rise gt lt)
  as_counted rise lt gt e f g = λ i. count_of (under_is a p i) (under_is b p i) (cond (e i) (g i) (f i))

  pub judged_is : (within : Bool) → (within ≡ true → IsBetween (a.x *ℤ p.w) (b.x *ℤ p.w) p.x × IsBetween (a.y *ℤ p.w) (b.y *ℤ p.w) p.y) → (within ≡ false → IsOnEdge a b p → ⊥)
      → IsRayHit (judged (turn a b p) (above a p) (above b p) (int_lt a.y b.y) within) a b p
  judged_is within inbox outbox = by_lt_z (turn a b p) (pos 0)
      (λ l. let f : int_lt (turn a b p) (pos 0) ≡ true = sym (omega (arith, ints)) in let g : int_lt (pos 0) (turn a b p) ≡ false = sym (omega (arith, ints)) in
      neg_case (int_le (pos 0) (above a p)) (int_le (pos 0) (above b p)) (int_lt a.y b.y) within (λ o. let e = o.line in omega (arith, ints)) (as_counted (int_lt a.y b.y) true false refl f g) (turn a b p) (above a p) (above b p) f refl refl)
      (λ l. by_lt_z (pos 0) (turn a b p)
      (λ k. let f : int_lt (turn a b p) (pos 0) ≡ false = sym (omega (arith, ints)) in let g : int_lt (pos 0) (turn a b p) ≡ true = sym (omega (arith, ints)) in
      pos_case (int_le (pos 0) (above a p)) (int_le (pos 0) (above b p)) (int_lt a.y b.y) within (λ o. let e = o.line in omega (arith, ints)) (as_counted (int_lt a.y b.y) false true refl f g) (turn a b p) (above a p) (above b p) f g refl refl)
      (λ k. let f : int_lt (turn a b p) (pos 0) ≡ false = sym (omega (arith, ints)) in let g : int_lt (pos 0) (turn a b p) ≡ false = sym (omega (arith, ints)) in
      let z : turn a b p ≡ pos 0 = omega (arith, ints) in
      zero_case within (λ e. record { line = z; across = (inbox e).0; along = (inbox e).1 }) outbox (counted-line a b p z) (turn a b p) (above a p) (above b p) (int_lt a.y b.y) f g))

-- ---- the box of an edge and a spot

and_both : (x y : Bool) → (x && y) ≡ true → (x ≡ true) × (y ≡ true)
and_both true true e = (refl, refl)
and_both true false e = absurd (false≢true e)
and_both false y e = absurd (false≢true e)

both_and : (x y : Bool) → x ≡ true → y ≡ true → (x && y) ≡ false → ⊥
both_and x y e f g = false≢true (sym g ∙ rw (e, f) refl)

pub judged_spot : (a b : Point) (p : HalfPoint) → IsRayHit (judged (turn a b (place p)) (above a (place p)) (above b (place p)) (int_lt a.y b.y) (is_boxed a b p)) a b (place p)
judged_spot a b p = judged_is a b (place p) (is_boxed a b p)
    (λ e. let t = and_both _ _ e in (within_yes a.x b.x p.x t.0, within_yes a.y b.y p.y t.1))
    (λ e o. both_and _ _ (yes_within a.x b.x p.x o.across) (yes_within a.y b.y p.y o.along) e)

short_of : (a : ℤ) → neg_ℤ (pos 200000000) ≤ℤ a → a ≤ℤ pos 200000000 → IsShort (to_z w64 (of_z w64 a))
short_of a h k = let f : FitsSigned w64 a = omega (arith, ints) in rw (read a f) (record { least = omega (arith, ints); greatest = omega (arith, ints) })

pub short_x : (a : Point) → IsSmall a → IsShort (to_z w64 (of_z w64 a.x))
short_x a h = short_of a.x (omega (arith, ints)) (omega (arith, ints))

pub short_y : (a : Point) → IsSmall a → IsShort (to_z w64 (of_z w64 a.y))
short_y a h = short_of a.y (omega (arith, ints)) (omega (arith, ints))

-- a number of a vertex or a spot that went to bits
pub read_x : (a : Point) → IsSmall a → to_z w64 (of_z w64 a.x) ≡ a.x
read_x a h = read a.x (omega (arith, ints))

pub read_y : (a : Point) → IsSmall a → to_z w64 (of_z w64 a.y) ≡ a.y
read_y a h = read a.y (omega (arith, ints))

pub read_spot_x : (p : HalfPoint) → IsSmallHalfPoint p → to_z w64 (of_z w64 p.x) ≡ p.x
read_spot_x p h = read p.x (omega (arith, ints))

pub read_spot_y : (p : HalfPoint) → IsSmallHalfPoint p → to_z w64 (of_z w64 p.y) ≡ p.y
read_spot_y p h = read p.y (omega (arith, ints))

pub back : (r z : ℤ) → mag r < 9223372036854775808 → r ≡ z → to_z w64 (of_z w64 r) ≡ z
back r z h e = to_z-of_z w64 r (record { sfits = h }) ∙ e

-- the next edge
next_place : (vs : List Point) (k end : ℕ) → end ≡ next vs k → vertex vs end ≡ vertex vs (next vs k)
next_place vs k end e = ap (vertex vs) e

flip_bit : (c n : ℕ) (odd : Bool) → n ≡ 1 → c % 2 ≡ bit odd → (c + n) % 2 ≡ bit (not odd)
flip_bit c n true e f = omega arith
flip_bit c n false e f = omega arith

keep_bit : (c n : ℕ) (odd : Bool) → n ≡ 0 → c % 2 ≡ bit odd → (c + n) % 2 ≡ bit odd
keep_bit c n odd e f = omega arith

off_more : (vs : List Point) (p : Place) (k : ℕ) → ((j : ℕ) → j < k → IsOnEdge (vertex vs j) (vertex vs (next vs j)) p → ⊥) → (IsOnEdge (vertex vs k) (vertex vs (next vs k)) p → ⊥) → (j : ℕ) → j < k + 1 → IsOnEdge (vertex vs j) (vertex vs (next vs j)) p → ⊥
off_more vs p k f g j h o = elim (cases_lt j k) [ inl x ↦ f j x o | inr y ↦ (let e : j ≡ k = omega arith in g (subst (λ i. IsOnEdge (vertex vs i) (vertex vs (next vs i)) p) e o)) ]

pub passed_none : (vs : List Point) (p : Place) → IsPassedBy vs p 0 false
unfolding crossings
passed_none vs p = record { off = λ j h. absurd (omega arith); parity = refl }

module _ (vs : List Point) (p : Place) (k end : ℕ) (odd : Bool) (e : end ≡ next vs k) (h : IsPassedBy vs p k odd) where
  step : (n : ℕ) (b : Bool) → IsPassed (vertex vs k) (vertex vs end) p n → (crossings vs p k + n) % 2 ≡ bit b → IsPassedBy vs p (suc k) b
  unfolding crossings
  step n b d f =
      let d' = subst (λ v. IsPassed (vertex vs k) v p n) (next_place vs k end e) d in
      let c = d'.counts in
      record { off = (let s : suc k ≡ k + 1 = omega arith in rw s (off_more vs p k h.off d'.off)); parity = rw c f }

  pub passed_crossing : IsPassed (vertex vs k) (vertex vs end) p 1 → IsPassedBy vs p (k + 1) (not odd)
  passed_crossing d = let s : k + 1 ≡ suc k = omega arith in rw s (step 1 (not odd) d (flip_bit _ 1 odd refl h.parity))

  pub passed_miss : IsPassed (vertex vs k) (vertex vs end) p 0 → IsPassedBy vs p (k + 1) odd
  passed_miss d = let s : k + 1 ≡ suc k = omega arith in rw s (step 0 odd d (keep_bit _ 0 odd refl h.parity))
