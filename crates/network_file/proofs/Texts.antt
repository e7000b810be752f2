-- Texts that are written piece by piece.
use Rattle.std.proofs.Common.{◌≡◌, ℕ, ◌/◌, ◌%◌, ◌^◌, ◌<◌, ◌≤◌, List, ◌++◌, sym, ◌∙◌, ap, arith, append_assoc, codes, decimal}
use Rattle.std.proofs.lemmas.Fmt.{decimal_digit, decimal_step}

-- pieces that were written at once, and then one more
pub header_written : (old p d e names a b : List ℕ) → a ≡ old ++ (p ++ (d ++ e)) → b ≡ a ++ names → b ≡ old ++ p ++ d ++ e ++ names
header_written old p d e names a b h k = k ∙ ap (λ x. x ++ names) h ∙ simp append_assoc

-- the last digit of a number stands after those of the others
decimal-last : (n : ℕ) → 10 ≤ n → n < 2 ^ 64 → decimal (n / 10) ++ decimal (n % 10) ≡ decimal n
decimal-last n some small = ap (λ d. decimal (n / 10) ++ d) (decimal_digit (n % 10) (omega arith)) ∙ sym (decimal_step n some small)

-- the other digits of a number were written, and then its last one
pub last_digit_written : (n : ℕ) (old front new : List ℕ) → 10 ≤ n → n < 2 ^ 64 → front ≡ old ++ decimal (n / 10) → new ≡ front ++ decimal (n % 10) → new ≡ old ++ decimal n
last_digit_written n old front new some small h k =
    k ∙ ap (λ x. x ++ decimal (n % 10)) h ∙ append_assoc old (decimal (n / 10)) (decimal (n % 10)) ∙ ap (λ x. old ++ x) (decimal-last n some small)

pub edge_written : (old di dj set : List ℕ) → old ++ di ++ codes " " ++ dj ++ codes " " ++ set ≡ old ++ (di ++ codes " " ++ dj ++ codes " " ++ set)
edge_written old di dj set = simp append_assoc
