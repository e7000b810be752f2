-- What digits are worth, and that 18 of them stay below 10 ^ 18.
use Rattle.std.proofs.Common.{◌≡◌, ℕ, zero, suc, ◌+◌, ◌-◌, ◌*◌, ◌^◌, ◌<◌, ◌≤◌, true, ◌&&◌, List, [], ◌∷◌, length, take, get_or, nat_le, arith}
use Rattle.std.proofs.Math.Nat.{pow-le-pow_right}
use Rattle.std.proofs.lemmas.List.{length-take-le}
use Rattle.std.proofs.lemmas.Bool.{and_parts}
use Rattle.std.proofs.lemmas.Bool.Decides.{nat_tests}
use Rattle.std.proofs.lemmas.Int.Digits.{digits_value-lt}
use Rattle.std.specs.Char.{is_ascii_digit, digit_value}
use Rattle.std.specs.List.{list_all}
use Rattle.std.specs.Str.Parse.{digits_value, AllDigits}
use Rattle.std.proofs.lemmas.List.Sums.{AllPass-from_list_all}
use Rattle.qsr_lex.specs.Numbers.{are_digits}

-- a digit's value is its distance from `0`
pub digit_value-digit : (b : ℕ) → is_ascii_digit b ≡ true → (48 ≤ b) × (digit_value b ≡ b - 48) × (digit_value b < 10)
digit_value-digit b h = (grind (arith, nat_tests), grind (arith, nat_tests), grind (arith, nat_tests))

-- digits are digits in base 10
pub AllDigits-take : (i : ℕ) (bs : List ℕ) → list_all is_ascii_digit bs ≡ true → AllDigits 10 (take i bs)
AllDigits-take zero bs h = tt
AllDigits-take (suc i) [] h = tt
AllDigits-take (suc i) (b ∷ bs) h = ((digit_value-digit b (and_parts _ _ h).0).2, AllDigits-take i bs (and_parts _ _ h).1)

-- the first i of at most 18 digits are worth less than 10 ^ i
pub value_below : (i : ℕ) (bs : List ℕ) → list_all is_ascii_digit bs ≡ true → i ≤ length bs → digits_value 10 (take i bs) < 10 ^ i
value_below i bs h short = rw length-take-le at (digits_value-lt 10 (take i bs) (AllDigits-take i bs h))

-- one digit more
pub value_more : (i v d : ℕ) → v < 10 ^ i → i < 18 → d < 10 → v * 10 + d < 10 ^ 18
value_more i v d small short worth =
    let last : i ≤ 17 = omega arith in
    let most : 10 ^ i ≤ 10 ^ 17 = pow-le-pow_right (omega arith) last in
    omega arith

-- what the test of a number's text says
pub record AreDigits (text : List ℕ) : Type 0 where
  pub some : 1 ≤ length text
  pub few : length text ≤ 18
  pub digits : list_all is_ascii_digit text ≡ true

pub AreDigits-from_test : (text : List ℕ) → are_digits text ≡ true → AreDigits text
AreDigits-from_test text h =
    let outer = and_parts (nat_le 1 (length text) && nat_le (length text) 18) (list_all is_ascii_digit text) h in
    let inner = and_parts (nat_le 1 (length text)) (nat_le (length text) 18) outer.0 in
    record {
      some = grind (arith, nat_tests, inner.0);
      few = grind (arith, nat_tests, inner.1);
      digits = outer.1;
    }

-- each of the digits is one
pub digit_at : (text : List ℕ) (i : ℕ) → list_all is_ascii_digit text ≡ true → i < length text → (48 ≤ get_or text i 0) × (digit_value (get_or text i 0) ≡ get_or text i 0 - 48) × (digit_value (get_or text i 0) < 10)
digit_at text i h within = digit_value-digit (get_or text i 0) (AllPass-from_list_all is_ascii_digit text h i 0 within)
