-- Two intervals lie in a base relation exactly where their end points compare as those of its example.
use Rattle.std.proofs.Common.{◌≡◌, ℕ, ◌<◌, Bool, true, false, ltb, sym, ◌∙◌, ap, arith, inl, inr}
use Rattle.std.proofs.lemmas.Bool.{cases_lt, false≢true}
use Rattle.std.proofs.lemmas.Bool.Decides.{nat_tests}
use Rattle.std.proofs.lemmas.List.{get_or_past}
use Rattle.calculus_table.specs.Algebra.{converse_at}
use Rattle.calculus_builtin.specs.Allen.{Interval, IsInterval, holds, never, allen_rules, allen_algebra}
use Rattle.calculus_builtin.proofs.Numbers.{EachNumber, each_number-at}
use Rattle.allen_real.specs.EndPoints.{end_of, below_in_example}

-- the end points of x lie below those of y where it is so in the example of r
pub record LieAsIn (r : ℕ) (x y : Interval) : Type 0 where
  pub lows : ltb x.low y.low ≡ below_in_example r false false
  pub low_high : ltb x.low y.high ≡ below_in_example r false true
  pub high_low : ltb x.high y.low ≡ below_in_example r true false
  pub highs : ltb x.high y.high ≡ below_in_example r true true

pub end-below : (r : ℕ) (x y : Interval) (p q : Bool) → LieAsIn r x y →
    ltb (end_of x p) (end_of y q) ≡ below_in_example r p q
end-below r x y false false l = l.lows
end-below r x y false true l = l.low_high
end-below r x y true false l = l.high_low
end-below r x y true true l = l.highs

pub lie-from_ends : (r : ℕ) (x y : Interval) → ((p q : Bool) → ltb (end_of x p) (end_of y q) ≡ below_in_example r p q) →
    LieAsIn r x y
lie-from_ends r x y h = record {
  lows = h false false;
  low_high = h false true;
  high_low = h true false;
  highs = h true true;
}

-- ---- each rule says what its example does

abbrev Fits : ℕ → Type 0
Fits r =
    (x y : Interval) → (IsInterval x → IsInterval y → holds r x y ≡ true → LieAsIn r x y)
    × (LieAsIn r x y → LieAsIn (converse_at allen_algebra r) y x → holds r x y ≡ true)

fits_b : Fits 0
fits_b x y = (λ p q h. grind (arith, nat_tests), λ l m. grind (arith, nat_tests))

fits_m : Fits 1
fits_m x y = (λ p q h. grind (arith, nat_tests), λ l m. grind (arith, nat_tests))

fits_o : Fits 2
fits_o x y = (λ p q h. grind (arith, nat_tests), λ l m. grind (arith, nat_tests))

fits_fi : Fits 3
fits_fi x y = (λ p q h. grind (arith, nat_tests), λ l m. grind (arith, nat_tests))

fits_di : Fits 4
fits_di x y = (λ p q h. grind (arith, nat_tests), λ l m. grind (arith, nat_tests))

fits_s : Fits 5
fits_s x y = (λ p q h. grind (arith, nat_tests), λ l m. grind (arith, nat_tests))

fits_eq : Fits 6
fits_eq x y = (λ p q h. grind (arith, nat_tests), λ l m. grind (arith, nat_tests))

fits_si : Fits 7
fits_si x y = (λ p q h. grind (arith, nat_tests), λ l m. grind (arith, nat_tests))

fits_d : Fits 8
fits_d x y = (λ p q h. grind (arith, nat_tests), λ l m. grind (arith, nat_tests))

fits_f : Fits 9
fits_f x y = (λ p q h. grind (arith, nat_tests), λ l m. grind (arith, nat_tests))

fits_oi : Fits 10
fits_oi x y = (λ p q h. grind (arith, nat_tests), λ l m. grind (arith, nat_tests))

fits_mi : Fits 11
fits_mi x y = (λ p q h. grind (arith, nat_tests), λ l m. grind (arith, nat_tests))

fits_bi : Fits 12
fits_bi x y = (λ p q h. grind (arith, nat_tests), λ l m. grind (arith, nat_tests))

fits_each : EachNumber 13 Fits
fits_each = (
  fits_bi,
  (
    fits_mi,
    (
      fits_oi,
      (
        fits_f,
        (
          fits_d,
          (
            fits_si,
            (
              fits_eq,
              (fits_s, (fits_di, (fits_fi, (fits_o, (fits_m, (fits_b, tt)))))),
            ),
          ),
        ),
      ),
    ),
  ),
)

pub rule-below : (r : ℕ) (x y : Interval) → holds r x y ≡ true → r < 13
rule-below r x y h = elim (cases_lt r 13) [
  | inl l ↦ l
  | inr g ↦ absurd (false≢true (sym (ap (λ rule. rule x y) (get_or_past allen_rules r never g)) ∙ h))
]

pub holds-order : (r : ℕ) (x y : Interval) → IsInterval x → IsInterval y → holds r x y ≡ true → LieAsIn r x y
holds-order r x y p q h = (each_number-at 13 Fits fits_each r (rule-below r x y h) x y).0 p q h

pub order-holds : (r : ℕ) (x y : Interval) → r < 13 → LieAsIn r x y → LieAsIn (converse_at allen_algebra r) y x →
    holds r x y ≡ true
order-holds r x y below l m = (each_number-at 13 Fits fits_each r below x y).1 l m
