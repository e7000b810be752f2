-- Beside a place strictly inside one edge, and on no other: at the left of an edge that rises or falls, or below a level one, the number of counted edges has the other parity; at the right, or above, the same.
use Rattle.std.proofs.Common.{◌≡◌, ℕ, ◌+◌, ◌%◌, Bool, true, false, refl, sym, ap, ◌∙◌, arith}
use Rattle.std.specs.Prelude.{int_lt, int_le}
use Rattle.std.proofs.lemmas.Bool.{false≢true}
use lib.IntN.{ℤ, pos, ◌-ℤ◌, ◌*ℤ◌, zero-*ℤ}
use lib.Signed.{◌<ℤ◌, ◌≤ℤ◌}
use borrow.Author.Differences.{ints}
use Rattle.std.proofs.lemmas.Int.{clamps}
use Rattle.poly_exact.specs.declared.points.Point.{Point}
use Rattle.poly_exact.specs.Places.{Place, above, turn, reach, IsBetween, IsOnEdge, IsInside, is_under, is_right, bit, counted}
use Rattle.poly_exact.proofs.Whole.{weak, mul-nonneg, mul-pos-neg, zero-of-mul}
use Rattle.poly_exact.proofs.Crossings.{side, across_second}
use Rattle.poly_exact.proofs.EdgeLaw.{count_of, inside, inside_of, under_yes, under_no, yes_under, right_rising, drop_of, climb, same_tests}

-- ---- at one height

same_under : (v : Point) (p m : Place) → pos 0 <ℤ p.w → pos 0 <ℤ m.w → p.y *ℤ m.w ≡ m.y *ℤ p.w → is_under v p ≡ is_under v m
same_under v p m h k e =
    let c = climb v p m in
    same_tests _ _
    (λ t f. absurd (omega (arith, ints, c, mul-nonneg m.w (above v p) (weak k) (under_yes v p t), mul-pos-neg p.w (above v m) h (under_no v m f))))
    (λ f t. absurd (omega (arith, ints, c, mul-pos-neg m.w (above v p) k (under_no v p f), mul-nonneg p.w (above v m) (weak h) (under_yes v m t))))

-- the law of one edge, with the fault x
abbrev pub Law : Point → Point → Place → Place → ℕ → Type 0
Law a b p m x = (counted a b p + counted a b m + inside p m a + inside p m b + x) % 2 ≡ 0

flip_of : (ua ub rp : Bool) (x : ℕ) (sa sb : Bool) → ua ≡ true → ub ≡ false → bit rp ≡ x → (count_of ua ub rp + count_of ua ub false + inside_of ua ua sa + inside_of ub ub sb + x) % 2 ≡ 0
flip_of true false true x sa sb e f g = rw (← g) refl
flip_of true false false x sa sb e f g = rw (← g) refl
flip_of true true rp x sa sb e f g = absurd (cc)
flip_of false ub rp x sa sb e f g = absurd (cc)

module _ (a b : Point) (p m : Place) (h : pos 0 <ℤ p.w) (k : pos 0 <ℤ m.w) (e : p.y *ℤ m.w ≡ m.y *ℤ p.w) (rise : pos 0 <ℤ (b.y -ℤ a.y)) (line : turn a b m ≡ pos 0) (ua : is_under a m ≡ true) (ub : is_under b m ≡ false) where
  beside_rising : (t : Bool) → int_lt (pos 0) (turn a b p) ≡ t → Law a b p m (bit t)
  beside_rising t g =
      rw (right_rising a b p rise, right_rising a b m rise, line, same_under a p m h k e, same_under b p m h k e)
      (flip_of (is_under a m) (is_under b m) (int_lt (pos 0) (turn a b p)) (bit t) (int_lt (side p m a) (pos 0)) (int_lt (side p m b) (pos 0)) ua ub (ap bit g))

  pub left_rising : pos 0 <ℤ turn a b p → Law a b p m 1
  left_rising g = beside_rising true (sym (omega (arith, ints)))

  pub right_of_rising : turn a b p ≤ℤ pos 0 → Law a b p m 0
  right_of_rising g = beside_rising false (sym (omega (arith, ints)))

-- ---- strictly inside an edge that rises

least_of : (u v z : ℤ) → u ≤ℤ v → IsBetween u v z → u ≤ℤ z
least_of u v z h b = let k = b.least in omega (arith, ints, clamps)

greatest_of : (u v z : ℤ) → u ≤ℤ v → IsBetween u v z → z ≤ℤ v
greatest_of u v z h b = let k = b.greatest in omega (arith, ints, clamps)

module _ (a b : Point) (m : Place) (rise : pos 0 <ℤ (b.y -ℤ a.y)) (w : pos 0 <ℤ m.w) where
  ends : (a.y *ℤ m.w) ≤ℤ (b.y *ℤ m.w)
  ends = omega (arith, ints, drop_of a b m, mul-nonneg m.w (b.y -ℤ a.y) (weak w) (weak rise))

  pub on_first : IsOnEdge a b m → pos 0 ≤ℤ above a m
  on_first i = let k = least_of _ _ _ ends i.along in omega (arith, ints)

  pub on_second : IsOnEdge a b m → above b m ≤ℤ pos 0
  on_second i = let k = greatest_of _ _ _ ends i.along in omega (arith, ints)

  pub inside_first : IsInside a b m → is_under a m ≡ true
  inside_first i = yes_under a m (on_first i.on)

  at_second : IsOnEdge a b m → above b m ≡ pos 0 → reach b a m ≡ pos 0
  at_second i e =
      let f = across_second a b m i.line in
      let z : above b m *ℤ (b.x -ℤ a.x) ≡ pos 0 = rw e (zero-*ℤ (b.x -ℤ a.x)) in
      let x : m.x -ℤ b.x *ℤ m.w ≡ pos 0 = zero-of-mul (b.y -ℤ a.y) (m.x -ℤ b.x *ℤ m.w) rise (f ∙ z) in
      rw (x, e) (omega (arith, ints, zero-*ℤ (a.x -ℤ b.x), zero-*ℤ (a.y -ℤ b.y)))

  pub inside_second : IsInside a b m → is_under b m ≡ false
  inside_second i = same_tests (is_under b m) false
      (λ t f. let o = on_second i.on in let u = under_yes b m t in let h = i.from_second in absurd (omega (arith, ints, at_second i.on (omega (arith, ints)))))
      (λ f t. absurd (false≢true t))

-- ---- edges of one height: below and above

module _ (a b : Point) (p m : Place) (level : b.y ≡ a.y) where
  same_p : is_under b p ≡ is_under a p
  same_p = ap (λ h. int_le (h *ℤ p.w) p.y) level

  same_m : is_under b m ≡ is_under a m
  same_m = ap (λ h. int_le (h *ℤ m.w) m.y) level

  level_flip : (up um rp rm sa sb : Bool) → up ≡ false → um ≡ true → (bit sa + bit sb + 1) % 2 ≡ 0
      → (count_of up up rp + count_of um um rm + inside_of up um sa + inside_of up um sb + 1) % 2 ≡ 0
  level_flip false true rp rm sa sb e f g = omega arith
  level_flip true um rp rm sa sb e f g = absurd (cc)
  level_flip false false rp rm sa sb e f g = absurd (cc)

  pub below_level : is_under a p ≡ false → is_under a m ≡ true → (bit (int_lt (side p m a) (pos 0)) + bit (int_lt (side p m b) (pos 0)) + 1) % 2 ≡ 0 → Law a b p m 1
  below_level f t s = rw (same_p, same_m) (level_flip (is_under a p) (is_under a m) (is_right a b p) (is_right a b m) (int_lt (side p m a) (pos 0)) (int_lt (side p m b) (pos 0)) f t s)

  level_stay : (um up rm rp sa sb : Bool) → um ≡ true → up ≡ true → (count_of um um rm + count_of up up rp + inside_of um up sa + inside_of um up sb + 0) % 2 ≡ 0
  level_stay true true rp rm sa sb e f = refl
  level_stay true false rp rm sa sb e f = absurd (cc)
  level_stay false um rp rm sa sb e f = absurd (cc)

  pub above_level : is_under a p ≡ true → is_under a m ≡ true → Law a b m p 0
  above_level f t = rw (same_p, same_m) (level_stay (is_under a m) (is_under a p) (is_right a b m) (is_right a b p) (int_lt (side m p a) (pos 0)) (int_lt (side m p b) (pos 0)) t f)
