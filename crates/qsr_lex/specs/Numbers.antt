-- The numbers of a text, without and with a sign.
use Rattle.std.specs.Prelude.{ℕ, List, [], ◌∷◌, Bool, false, ◌&&◌, ◌||◌, nat_le, length, drop, take_while, Option, Some, None, option_map, if◌then◌else◌, ℤ, pos, neg_ℤ}
use Rattle.std.specs.List.{list_all, prefix_len}
use Rattle.std.specs.Char.{is_ascii_digit}
use Rattle.std.specs.Str.Parse.{digits_value}
use Rattle.qsr_lex.specs.Bytes.{is_zero, is_dot, is_plus, is_minus}
use Rattle.qsr_lex.specs.declared.TheConstants.{MOST_DIGITS}

-- 1 to MOST_DIGITS decimal digits
abbrev pub are_digits : List ℕ → Bool
are_digits text = nat_le 1 (length text) && nat_le (length text) MOST_DIGITS && list_all is_ascii_digit text

-- the value of 1 to MOST_DIGITS decimal digits, and none for every other text
abbrev pub number_of : List ℕ → Option ℕ
number_of text = if are_digits text then Some (digits_value 10 text) else None

-- a dot, and one or more zeros
abbrev pub is_zero_fraction : List ℕ → Bool
is_zero_fraction [] = false
is_zero_fraction (b ∷ bs) = is_dot b && nat_le 1 (length bs) && list_all is_zero bs

-- nothing, or a dot and one or more zeros
abbrev pub is_no_fraction : List ℕ → Bool
is_no_fraction bs = nat_le (length bs) 0 || is_zero_fraction bs

-- the digits at the front, where no fraction but zeros follows them
abbrev pub whole_of : List ℕ → Option ℕ
whole_of text = if is_no_fraction (drop (prefix_len is_ascii_digit text) text) then number_of (take_while is_ascii_digit text) else None

-- an optional sign, 1 to MOST_DIGITS digits, and optionally a dot with zeros
abbrev pub signed_of : List ℕ → Option ℤ
signed_of [] = None
signed_of (b ∷ bs) =
    if is_minus b then option_map (λ n. neg_ℤ (pos n)) (whole_of bs)
    else (if is_plus b then option_map pos (whole_of bs) else option_map pos (whole_of (b ∷ bs)))
