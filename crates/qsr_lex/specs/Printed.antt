-- Texts as they are printed: one space between tokens, and an LF at the end of each line.
use Rattle.std.specs.Prelude.{◌≡◌, ℕ, zero, suc, ◌+◌, List, [], ◌∷◌, ◌++◌, Bool, true, false, ◌&&◌, ◌||◌, nat_le, length, map, decimal, slice_get, unwrap_or, codes, Some, None}
use Rattle.std.specs.List.{list_all, flat_map}
use Rattle.qsr_lex.specs.Bytes.{space, is_allowed, is_mark, is_colon, is_word_byte}
use Rattle.qsr_lex.specs.Lexemes.{Lexeme, kind_of}
use Rattle.qsr_lex.specs.Numbers.{number_of}
use Rattle.qsr_lex.specs.LineTokens.{is_name_token, names_at}
use Rattle.qsr_lex.specs.declared.tokens.TokenKind.TheVariants.{Word}
use Rattle.qsr_lex.specs.TokenLines.{TokenLine, add_line, token_lines}
use Rattle.qsr_lex.specs.TextLines.{bad_line, line_count}

-- a bracket, a comma, a colon or two colons
abbrev pub is_mark_text : List ℕ → Bool
is_mark_text [] = false
is_mark_text (b ∷ []) = is_mark b
is_mark_text (b ∷ c ∷ bs) = is_colon b && is_colon c && nat_le (length bs) 0

-- a byte that may stand in a word
abbrev pub is_word_char : ℕ → Bool
is_word_char b = is_allowed b && is_word_byte b

-- one token and nothing else: a mark, or a word
abbrev pub is_token_text : List ℕ → Bool
is_token_text text = is_mark_text text || (nat_le 1 (length text) && list_all is_word_char text)

-- each text is one token
abbrev pub are_tokens : List (List ℕ) → Bool
are_tokens texts = list_all is_token_text texts

-- the token with this text
abbrev pub lexeme_from : List ℕ → Lexeme
lexeme_from text = record { kind = kind_of text; text = text }

-- texts with one space between
abbrev pub spaced : List (List ℕ) → List ℕ
spaced [] = []
spaced (w ∷ []) = w
spaced (w ∷ v ∷ ws) = w ++ space ∷ spaced (v ∷ ws)

-- a line of tokens, with its LF
abbrev pub printed_line : List (List ℕ) → List ℕ
printed_line texts = spaced texts ++ codes "\n"

-- lines of tokens
abbrev pub printed : List (List (List ℕ)) → List ℕ
printed text = flat_map printed_line text

-- the texts f 0, .., f (n - 1), one after another
unfoldable pub text_below : ℕ → (ℕ → List ℕ) → List ℕ
text_below zero f = []
text_below (suc n) f = text_below n f ++ f n

-- the name at this place, and a space
abbrev pub word_text : List (List ℕ) → ℕ → List ℕ
word_text names k = unwrap_or (slice_get names k) [] ++ codes " "

-- the lines of tokens that have any, where the first line has the number n
abbrev pub printed_token_lines : ℕ → List (List (List ℕ)) → List TokenLine
printed_token_lines n [] = []
printed_token_lines n (texts ∷ rest) = add_line n (map lexeme_from texts) (printed_token_lines (n + 1) rest)

-- what is printed of these tokens is read as these tokens
pub record IsReadAgain (text : List (List (List ℕ))) : Type 0 where
  pub clean : bad_line (printed text) ≡ None
  pub count : line_count (printed text) ≡ length text
  pub lines : token_lines (printed text) ≡ printed_token_lines 1 text

-- a name that is printed is one token, and a name
pub record IsPrintedName (name : List ℕ) : Type 0 where
  pub token : is_token_text name ≡ true
  pub word : is_name_token (lexeme_from name) ≡ true

-- names that are printed in brackets, in front of other tokens, are read as these names
pub record IsPrintedSet (names rest : List (List ℕ)) : Type 0 where
  pub read : names_at (map lexeme_from (codes "(" ∷ names ++ codes ")" ∷ rest)) ≡ Some (names, map lexeme_from rest)

-- a number that is printed is one token, a word, and read as that number
pub record IsPrintedNumber (n : ℕ) : Type 0 where
  pub token : is_token_text (decimal n) ≡ true
  pub word : kind_of (decimal n) ≡ Word
  pub number : number_of (decimal n) ≡ Some n
