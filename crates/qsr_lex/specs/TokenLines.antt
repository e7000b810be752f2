-- The lines of a text that have tokens, as a reader goes over them.
use Rattle.std.specs.Prelude.{ℕ, ◌+◌, ◌==◌, List, [], ◌∷◌, slice_range, map, ◌≤◌, if◌then◌else◌}
use Rattle.qsr_lex.specs.TextLines.{text_lines, outside}
use Rattle.qsr_lex.specs.Lexemes.{Lexeme, lexemes}
use Rattle.qsr_lex.specs.declared.tokens.Token.{Token}

-- a line with tokens: its number, and its tokens without their places
pub record TokenLine : Type 0 where
  pub number : ℕ
  pub tokens : List Lexeme

-- a line in front of others; one without tokens is passed over
abbrev pub add_line : ℕ → List Lexeme → List TokenLine → List TokenLine
add_line n [] rest = rest
add_line n (x ∷ xs) rest = record { number = n; tokens = x ∷ xs } ∷ rest

-- the lines that have tokens, where the first line has the number n
abbrev pub token_lines_from : ℕ → List (List ℕ) → List TokenLine
token_lines_from n [] = []
token_lines_from n (l ∷ ls) = add_line n (lexemes (outside l)) (token_lines_from (n + 1) ls)

-- the lines of a text that have tokens, in order
abbrev pub token_lines : List ℕ → List TokenLine
token_lines bytes = token_lines_from 1 (text_lines bytes)

-- a token of a text without its place
abbrev pub lexeme_of : List ℕ → Token → Lexeme
lexeme_of bytes t = record { kind = t.kind; text = slice_range bytes t.start t.end }

-- a token in front of lines: it belongs to the first where that has its number
abbrev pub add_lexeme : ℕ → Lexeme → List TokenLine → List TokenLine
add_lexeme n x [] = record { number = n; tokens = x ∷ [] } ∷ []
add_lexeme n x (l ∷ ls) =
    if l.number == n then record { number = n; tokens = x ∷ l.tokens } ∷ ls
    else record { number = n; tokens = x ∷ [] } ∷ l ∷ ls

-- tokens of a text, line by line
abbrev pub by_line : List ℕ → List Token → List TokenLine
by_line bytes [] = []
by_line bytes (t ∷ ts) = add_lexeme t.line (lexeme_of bytes t) (by_line bytes ts)

-- a line with this number and these tokens
abbrev pub token_line : ℕ → List Lexeme → TokenLine
token_line n tokens = record { number = n; tokens = tokens }

-- tokens of a text without their places
abbrev pub lexemes_of : List ℕ → List Token → List Lexeme
lexemes_of bytes ts = map (lexeme_of bytes) ts

-- the tokens lie within the first n bytes
abbrev pub AreWithin : ℕ → List Token → Type 0
AreWithin n [] = Unit {0}
AreWithin n (t ∷ ts) = (t.start ≤ t.end) × (t.end ≤ n) × AreWithin n ts
