-- Numbers that are printed are read again.
use Rattle.std.proofs.Common.{◌≡◌, ℕ, ◌^◌, ◌==◌, ◌<◌, ◌≤◌, true, false, ◌&&◌, cond, nat_le, List, [], ◌∷◌, length, Some, None, refl, ap, ◌∙◌, arith}
use Rattle.std.specs.List.{list_all}
use Rattle.std.specs.Char.{is_ascii_digit, digit_value}
use Rattle.std.specs.Fmt.{decimal}
use Rattle.std.specs.Str.Parse.{AllDigits, digits_value}
use Rattle.std.proofs.lemmas.Bool.Decides.{nat_tests}
use Rattle.std.proofs.lemmas.Fmt.{decimal_is_IsNumeral, length-decimal-le}
use Rattle.std.proofs.lemmas.Str.Parse.{digit_from_value}
use Rattle.qsr_lex.specs.Numbers.{are_digits}
use Rattle.qsr_lex.specs.Names.{is_end_mark}
use Rattle.qsr_lex.specs.Printed.{is_word_char, IsPrintedNumber}
use Rattle.qsr_lex.proofs.PrintedNames.{word_is_token, kind_of-word}

digit_facts : (b : ℕ) → (48 ≤ b) → (b ≤ 57) → (is_ascii_digit b ≡ true) × (is_word_char b ≡ true) × ((b == 46) ≡ false)
digit_facts b low high = (grind (arith, nat_tests), grind (arith, nat_tests), grind (arith, nat_tests))

digit_char : (b : ℕ) → digit_value b < 10 → (is_ascii_digit b ≡ true) × (is_word_char b ≡ true) × ((b == 46) ≡ false)
digit_char b h = let range = digit_from_value b h in digit_facts b (omega (arith, range)) (omega (arith, range))

digits_are_digits : (ds : List ℕ) → AllDigits 10 ds → list_all is_ascii_digit ds ≡ true
digits_are_digits [] h = refl
digits_are_digits (b ∷ bs) h = ap (λ c. c && list_all is_ascii_digit bs) (digit_char b h.0).0 ∙ digits_are_digits bs h.1

digits_are_word : (ds : List ℕ) → AllDigits 10 ds → list_all is_word_char ds ≡ true
digits_are_word [] h = refl
digits_are_word (b ∷ bs) h = ap (λ c. c && list_all is_word_char bs) (digit_char b h.0).1 ∙ digits_are_word bs h.1

digits_no_stop : (ds : List ℕ) → AllDigits 10 ds → is_end_mark ds ≡ false
digits_no_stop [] h = refl
digits_no_stop (b ∷ bs) h = ap (λ c. c && nat_le (length bs) 0) (digit_char b h.0).2

some_digits : (n : ℕ) → 1 ≤ n → nat_le 1 n ≡ true
some_digits n h = grind (arith, nat_tests)

few_digits : (n : ℕ) → n ≤ 18 → nat_le n 18 ≡ true
few_digits n h = grind (arith, nat_tests)

pub IsPrintedNumber-below : (n : ℕ) → n < 10 ^ 18 → IsPrintedNumber n
IsPrintedNumber-below n small =
    let ds = decimal n in
    let is = decimal_is_IsNumeral n (omega arith) in
    let some = some_digits (length ds) is.0.0 in
    let few = few_digits (length ds) (length-decimal-le 18 n (omega arith) small (omega arith)) in
    let test : are_digits ds ≡ true =
    ap (λ c. c && nat_le (length ds) 18 && list_all is_ascii_digit ds) some ∙ ap (λ c. c && list_all is_ascii_digit ds) few ∙ digits_are_digits ds is.0.1 in
    record {
      token = word_is_token ds some (digits_are_word ds is.0.1);
      word = kind_of-word ds (digits_are_word ds is.0.1) (digits_no_stop ds is.0.1);
      number = ap (λ c. cond c (Some (digits_value 10 ds)) None) test ∙ ap Some is.1;
    }
