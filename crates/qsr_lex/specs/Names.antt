-- The words that may name a relation, a node, a polygon or a session.
use Rattle.std.specs.Prelude.{ℕ, List, [], ◌∷◌, Bool, false, not, ◌&&◌, ◌||◌, nat_le, length}
use Rattle.std.specs.List.{list_all}
use Rattle.std.specs.Char.{is_ascii_digit}
use Rattle.qsr_lex.specs.Bytes.{is_allowed, is_word_byte, is_dot, is_quote, is_backslash}
use Rattle.qsr_lex.specs.declared.TheConstants.{LONGEST_NAME}

-- a byte of a word other than `"` and `\`
abbrev pub is_name_byte : ℕ → Bool
is_name_byte b = is_allowed b && is_word_byte b && not (is_quote b || is_backslash b)

-- the text begins with a digit
abbrev pub starts_with_digit : List ℕ → Bool
starts_with_digit [] = false
starts_with_digit (b ∷ bs) = is_ascii_digit b

-- a single dot, the word that ends a file
abbrev pub is_end_mark : List ℕ → Bool
is_end_mark [] = false
is_end_mark (b ∷ bs) = is_dot b && nat_le (length bs) 0

-- a word of 1 to LONGEST_NAME bytes without `"` and `\`, whose first byte isn't a digit and which isn't `.`
abbrev pub is_name : List ℕ → Bool
is_name text =
    nat_le 1 (length text) && nat_le (length text) LONGEST_NAME && list_all is_name_byte text
    && not (starts_with_digit text) && not (is_end_mark text)
