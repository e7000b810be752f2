-- Products of short numbers and their sums fit.
use Rattle.std.proofs.Common.{◌≡◌, ◌*◌, ◌<◌, ◌≤◌, sym, ap, ◌∙◌, arith, w64, to_z, of_z}
use Rattle.std.specs.Prelude.{unsigned_abs, FitsSigned, int_lt, cond, true, false}
use lib.IntN.{ℤ, pos, negsuc, ◌-ℤ◌, ◌+ℤ◌, ◌*ℤ◌, neg_ℤ}
use lib.Signed.{mag, ◌≤ℤ◌, ◌<ℤ◌}
use borrow.Author.Differences.{ints}
use Rattle.std.proofs.lemmas.Int.{unsigned_abs-mul, to_z-of_z}
use Rattle.std.proofs.Math.Nat.{mul-le-mul}
use Rattle.poly_exact.specs.Small.{IsShort, IsSmall, IsSmallHalfPoint, place, place_at, sign_of}
use Rattle.poly_exact.specs.declared.points.Point.{Point}
use Rattle.poly_exact.specs.declared.points.HalfPoint.{HalfPoint}
use Rattle.poly_exact.specs.Places.{turn, reach}

pub record IsModest (a : ℤ) : Type 0 where
  pub least : neg_ℤ (pos 160000000000000000) ≤ℤ a
  pub greatest : a ≤ℤ pos 160000000000000000

pub short-product : (a b : ℤ) → IsShort a → IsShort b → IsModest (a *ℤ b)
short-product a b h k =
    let p : unsigned_abs a ≤ 400000000 = omega (arith, ints) in
    let q : unsigned_abs b ≤ 400000000 = omega (arith, ints) in
    let m : unsigned_abs a * unsigned_abs b ≤ 400000000 * 400000000 = mul-le-mul p q in
    let e = unsigned_abs-mul a b in
    record { least = omega (arith, ints); greatest = omega (arith, ints) }

fits_modest : (a : ℤ) → IsModest a → FitsSigned w64 a
fits_modest a h = omega (arith, ints)

fits_sum : (a b : ℤ) → IsModest a → IsModest b → FitsSigned w64 (a +ℤ b)
fits_sum a b h k = omega (arith, ints)

module _ (a b c d : ℤ) (p : IsShort a) (q : IsShort b) (r : IsShort c) (s : IsShort d) (fa : FitsSigned w64 a) (fb : FitsSigned w64 b) (fc : FitsSigned w64 c) (fd : FitsSigned w64 d) where
  read_product : (a b : ℤ) → IsShort a → IsShort b → FitsSigned w64 a → FitsSigned w64 b → to_z w64 (of_z w64 (to_z w64 (of_z w64 a) *ℤ to_z w64 (of_z w64 b))) ≡ a *ℤ b
  read_product a b p q f g = (λ i. to_z w64 (of_z w64 (to_z-of_z w64 a f i *ℤ to_z-of_z w64 b g i))) ∙ to_z-of_z w64 (a *ℤ b) (fits_modest _ (short-product a b p q))

  pub sum_fits : FitsSigned w64 (to_z w64 (of_z w64 (to_z w64 (of_z w64 a) *ℤ to_z w64 (of_z w64 b))) +ℤ to_z w64 (of_z w64 (to_z w64 (of_z w64 c) *ℤ to_z w64 (of_z w64 d))))
  sum_fits = rw (read_product a b p q fa fb, read_product c d r s fc fd) (fits_sum _ _ (short-product a b p q) (short-product c d r s))

  pub sum_read : to_z w64 (of_z w64 (to_z w64 (of_z w64 (to_z w64 (of_z w64 a) *ℤ to_z w64 (of_z w64 b))) +ℤ to_z w64 (of_z w64 (to_z w64 (of_z w64 c) *ℤ to_z w64 (of_z w64 d))))) ≡ a *ℤ b +ℤ c *ℤ d
  sum_read = rw (read_product a b p q fa fb, read_product c d r s fc fd) (to_z-of_z w64 _ (fits_sum _ _ (short-product a b p q) (short-product c d r s)))

-- ---- signs

module _ (z r : ℤ) (e : r ≡ z) where
  pub sign_negative : r <ℤ pos 0 → sign_of z ≡ negsuc 0
  sign_negative h =
      let f : int_lt z (pos 0) ≡ true = sym (omega (arith, ints)) in
      ap (λ t. cond t (negsuc 0) (cond (int_lt (pos 0) z) (pos 1) (pos 0))) f

  pub sign_positive : pos 0 <ℤ r → sign_of z ≡ pos 1
  sign_positive h =
      let f : int_lt z (pos 0) ≡ false = sym (omega (arith, ints)) in
      let g : int_lt (pos 0) z ≡ true = sym (omega (arith, ints)) in
      λ i. cond (f i) (negsuc 0) (cond (g i) (pos 1) (pos 0))

  pub sign_zero : r ≡ pos 0 → sign_of z ≡ pos 0
  sign_zero h =
      let f : int_lt z (pos 0) ≡ false = sym (omega (arith, ints)) in
      let g : int_lt (pos 0) z ≡ false = sym (omega (arith, ints)) in
      λ i. cond (f i) (negsuc 0) (cond (g i) (pos 1) (pos 0))

-- ---- numbers that went to bits

read : (a : ℤ) → FitsSigned w64 a → to_z w64 (of_z w64 a) ≡ a
read a f = to_z-of_z w64 a f

fits_mag : (r : ℤ) → mag r < 9223372036854775808 → FitsSigned w64 r
fits_mag r h = record { sfits = h }

pub back_negative : (r : ℤ) → mag r < 9223372036854775808 → int_lt (to_z w64 (of_z w64 r)) (pos 0) ≡ true → r <ℤ pos 0
back_negative r h e = let e' = rw (read r (fits_mag r h)) at e in omega (arith, ints)

pub back_positive : (r : ℤ) → mag r < 9223372036854775808 → int_lt (pos 0) (to_z w64 (of_z w64 r)) ≡ true → pos 0 <ℤ r
back_positive r h e = let e' = rw (read r (fits_mag r h)) at e in omega (arith, ints)

pub back_zero : (r : ℤ) → mag r < 9223372036854775808 → int_lt (to_z w64 (of_z w64 r)) (pos 0) ≡ false → int_lt (pos 0) (to_z w64 (of_z w64 r)) ≡ false → r ≡ pos 0
back_zero r h e f = let e' = rw (read r (fits_mag r h)) at e in let f' = rw (read r (fits_mag r h)) at f in omega (arith, ints)

-- within the limits of coordinates, and of those twice
record IsBounded (a : ℤ) : Type 0 where
  least : neg_ℤ (pos 200000000) ≤ℤ a
  greatest : a ≤ℤ pos 200000000

bounded_fits : (a : ℤ) → IsBounded a → FitsSigned w64 a
bounded_fits a h = omega (arith, ints)

minus : (a b : ℤ) → IsBounded a → IsBounded b → to_z w64 (of_z w64 (to_z w64 (of_z w64 a) -ℤ to_z w64 (of_z w64 b))) ≡ a -ℤ b
minus a b h k = (λ i. to_z w64 (of_z w64 (read a (bounded_fits a h) i -ℤ read b (bounded_fits b k) i))) ∙ read (a -ℤ b) (omega (arith, ints))

twice_read : (a : ℤ) → IsBounded a → to_z w64 (of_z w64 (to_z w64 (of_z w64 a) *ℤ pos 2)) ≡ a *ℤ pos 2
twice_read a h = (λ i. to_z w64 (of_z w64 (read a (bounded_fits a h) i *ℤ pos 2))) ∙ read (a *ℤ pos 2) (omega (arith, ints))

pub read_turn : (a b : Point) (p : HalfPoint) (r : ℤ) → IsSmall a → IsSmall b → IsSmallHalfPoint p → mag r < 9223372036854775808
    → r ≡ to_z w64 (of_z w64 (to_z w64 (of_z w64 (to_z w64 (of_z w64 a.x) *ℤ pos 2)) -ℤ to_z w64 (of_z w64 p.x))) *ℤ to_z w64 (of_z w64 (to_z w64 (of_z w64 b.y) -ℤ to_z w64 (of_z w64 a.y))) +ℤ to_z w64 (of_z w64 (to_z w64 (of_z w64 p.y) -ℤ to_z w64 (of_z w64 (to_z w64 (of_z w64 a.y) *ℤ pos 2)))) *ℤ to_z w64 (of_z w64 (to_z w64 (of_z w64 b.x) -ℤ to_z w64 (of_z w64 a.x)))
    → to_z w64 (of_z w64 r) ≡ turn a b (place p)
read_turn a b p r sa sb sp m e =
    let ax : IsBounded a.x = record { least = omega (arith, ints); greatest = omega (arith, ints) } in
    let ay : IsBounded a.y = record { least = omega (arith, ints); greatest = omega (arith, ints) } in
    let bx : IsBounded b.x = record { least = omega (arith, ints); greatest = omega (arith, ints) } in
    let by : IsBounded b.y = record { least = omega (arith, ints); greatest = omega (arith, ints) } in
    let px : IsBounded p.x = record { least = sp.left; greatest = sp.right } in
    let py : IsBounded p.y = record { least = sp.low; greatest = sp.high } in
    let f : to_z w64 (of_z w64 (to_z w64 (of_z w64 (to_z w64 (of_z w64 a.x) *ℤ pos 2)) -ℤ to_z w64 (of_z w64 p.x))) ≡ a.x *ℤ pos 2 -ℤ p.x =
    (λ i. to_z w64 (of_z w64 (twice_read a.x ax i -ℤ read p.x (bounded_fits p.x px) i))) ∙ read (a.x *ℤ pos 2 -ℤ p.x) (omega (arith, ints)) in
    let g : to_z w64 (of_z w64 (to_z w64 (of_z w64 p.y) -ℤ to_z w64 (of_z w64 (to_z w64 (of_z w64 a.y) *ℤ pos 2)))) ≡ p.y -ℤ a.y *ℤ pos 2 =
    (λ i. to_z w64 (of_z w64 (read p.y (bounded_fits p.y py) i -ℤ twice_read a.y ay i))) ∙ read (p.y -ℤ a.y *ℤ pos 2) (omega (arith, ints)) in
    read r (fits_mag r m) ∙ e ∙ (λ i. f i *ℤ minus b.y a.y by ay i +ℤ g i *ℤ minus b.x a.x bx ax i)

pub read_orient : (a b c : Point) (r : ℤ) → IsSmall a → IsSmall b → IsSmall c
    → r ≡ to_z w64 (of_z w64 (to_z w64 (of_z w64 a.x) -ℤ to_z w64 (of_z w64 c.x))) *ℤ to_z w64 (of_z w64 (to_z w64 (of_z w64 b.y) -ℤ to_z w64 (of_z w64 a.y))) +ℤ to_z w64 (of_z w64 (to_z w64 (of_z w64 c.y) -ℤ to_z w64 (of_z w64 a.y))) *ℤ to_z w64 (of_z w64 (to_z w64 (of_z w64 b.x) -ℤ to_z w64 (of_z w64 a.x)))
    → r ≡ turn a b (place_at c)
read_orient a b c r sa sb sc e =
    let ax : IsBounded a.x = record { least = omega (arith, ints); greatest = omega (arith, ints) } in
    let ay : IsBounded a.y = record { least = omega (arith, ints); greatest = omega (arith, ints) } in
    let bx : IsBounded b.x = record { least = omega (arith, ints); greatest = omega (arith, ints) } in
    let by : IsBounded b.y = record { least = omega (arith, ints); greatest = omega (arith, ints) } in
    let cx : IsBounded c.x = record { least = omega (arith, ints); greatest = omega (arith, ints) } in
    let cy : IsBounded c.y = record { least = omega (arith, ints); greatest = omega (arith, ints) } in
    let f : a.x -ℤ c.x ≡ a.x *ℤ pos 1 -ℤ c.x = omega (arith, ints) in
    let g : c.y -ℤ a.y ≡ c.y -ℤ a.y *ℤ pos 1 = omega (arith, ints) in
    e ∙ (λ i. minus a.x c.x ax cx i *ℤ minus b.y a.y by ay i +ℤ minus c.y a.y cy ay i *ℤ minus b.x a.x bx ax i) ∙ (λ i. f i *ℤ (b.y -ℤ a.y) +ℤ g i *ℤ (b.x -ℤ a.x))

pub read_reach : (a b c : Point) (r : ℤ) → IsSmall a → IsSmall b → IsSmall c
    → r ≡ to_z w64 (of_z w64 (to_z w64 (of_z w64 c.x) -ℤ to_z w64 (of_z w64 a.x))) *ℤ to_z w64 (of_z w64 (to_z w64 (of_z w64 b.x) -ℤ to_z w64 (of_z w64 a.x))) +ℤ to_z w64 (of_z w64 (to_z w64 (of_z w64 c.y) -ℤ to_z w64 (of_z w64 a.y))) *ℤ to_z w64 (of_z w64 (to_z w64 (of_z w64 b.y) -ℤ to_z w64 (of_z w64 a.y)))
    → r ≡ reach a b (place_at c)
read_reach a b c r sa sb sc e =
    let ax : IsBounded a.x = record { least = omega (arith, ints); greatest = omega (arith, ints) } in
    let ay : IsBounded a.y = record { least = omega (arith, ints); greatest = omega (arith, ints) } in
    let bx : IsBounded b.x = record { least = omega (arith, ints); greatest = omega (arith, ints) } in
    let by : IsBounded b.y = record { least = omega (arith, ints); greatest = omega (arith, ints) } in
    let cx : IsBounded c.x = record { least = omega (arith, ints); greatest = omega (arith, ints) } in
    let cy : IsBounded c.y = record { least = omega (arith, ints); greatest = omega (arith, ints) } in
    let f : c.x -ℤ a.x ≡ c.x -ℤ a.x *ℤ pos 1 = omega (arith, ints) in
    let g : c.y -ℤ a.y ≡ c.y -ℤ a.y *ℤ pos 1 = omega (arith, ints) in
    e ∙ (λ i. minus c.x a.x cx ax i *ℤ minus b.x a.x bx ax i +ℤ minus c.y a.y cy ay i *ℤ minus b.y a.y by ay i) ∙ (λ i. f i *ℤ (b.x -ℤ a.x) +ℤ g i *ℤ (b.y -ℤ a.y))

-- a sum of two coordinates, as a spot's
pub read_spot : (a b : ℤ) → neg_ℤ (pos 100000000) ≤ℤ a → a ≤ℤ pos 100000000 → neg_ℤ (pos 100000000) ≤ℤ b → b ≤ℤ pos 100000000 → to_z w64 (of_z w64 (to_z w64 (of_z w64 a) +ℤ to_z w64 (of_z w64 b))) ≡ a +ℤ b
read_spot a b h k l m =
    let f : FitsSigned w64 a = omega (arith, ints) in
    let g : FitsSigned w64 b = omega (arith, ints) in
    (λ i. to_z w64 (of_z w64 (read a f i +ℤ read b g i))) ∙ read (a +ℤ b) (omega (arith, ints))

pub fits_spot : (a b : ℤ) → neg_ℤ (pos 100000000) ≤ℤ a → a ≤ℤ pos 100000000 → neg_ℤ (pos 100000000) ≤ℤ b → b ≤ℤ pos 100000000 → FitsSigned w64 (to_z w64 (of_z w64 a) +ℤ to_z w64 (of_z w64 b))
fits_spot a b h k l m =
    let f : FitsSigned w64 a = omega (arith, ints) in
    let g : FitsSigned w64 b = omega (arith, ints) in
    let s : FitsSigned w64 (a +ℤ b) = omega (arith, ints) in
    rw (read a f, read b g) s

pub small_spot : (a b : Point) (x y : ℤ) → IsSmall a → IsSmall b → x ≡ a.x +ℤ b.x → y ≡ a.y +ℤ b.y → IsSmallHalfPoint (record { x = x; y = y })
small_spot a b x y h k e f = record { left = omega (arith, ints); right = omega (arith, ints); low = omega (arith, ints); high = omega (arith, ints) }

-- a vertex as a spot
pub read_twice : (a : ℤ) → neg_ℤ (pos 100000000) ≤ℤ a → a ≤ℤ pos 100000000 → to_z w64 (of_z w64 (to_z w64 (of_z w64 a) *ℤ pos 2)) ≡ a *ℤ pos 2
read_twice a h k = twice_read a (record { least = omega (arith, ints); greatest = omega (arith, ints) })

pub twice_spot : (a : Point) (x y : ℤ) → IsSmall a → x ≡ a.x *ℤ pos 2 → y ≡ a.y *ℤ pos 2 → IsSmallHalfPoint (record { x = x; y = y })
twice_spot a x y h e f = record { left = omega (arith, ints); right = omega (arith, ints); low = omega (arith, ints); high = omega (arith, ints) }
