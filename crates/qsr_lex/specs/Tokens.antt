-- The tokens of a text, each with its line and its place.
use Rattle.std.specs.Prelude.{ℕ, zero, suc, ◌+◌, ◌≤◌, ◌<◌, List, [], ◌∷◌, ◌++◌, length, Bool, not, filter, slice_range, if◌then◌else◌}
use Rattle.std.specs.List.{flat_map}
use Rattle.qsr_lex.specs.Bytes.{is_blank}
use Rattle.qsr_lex.specs.Lexemes.{tail_len, kind_of}
use Rattle.qsr_lex.specs.TextLines.{text_lines, outside}
use Rattle.qsr_lex.specs.declared.tokens.Token.{Token}

-- the token that begins with the first byte, which is byte `at` of the text and stands in this line; a blank begins none
abbrev pub token_here : ℕ → ℕ → List ℕ → List Token
token_here line at [] = []
token_here line at (b ∷ bs) =
    if is_blank b then []
    else record { line = line; start = at; end = at + (1 + tail_len (b ∷ bs)); kind = kind_of (b ∷ bs) } ∷ []

-- the tokens after `skip` bytes that belong to a token before
abbrev pub tokens_after : ℕ → ℕ → ℕ → List ℕ → List Token
tokens_after line at skip [] = []
tokens_after line at zero (b ∷ bs) = token_here line at (b ∷ bs) ++ tokens_after line (at + 1) (tail_len (b ∷ bs)) bs
tokens_after line at (suc skip) (b ∷ bs) = tokens_after line (at + 1) skip bs

-- the tokens of the lines, of which the first has this number and begins with byte `at` of the text
abbrev pub tokens_of_lines : ℕ → ℕ → List (List ℕ) → List Token
tokens_of_lines line at [] = []
tokens_of_lines line at (l ∷ ls) = tokens_after line at 0 (outside l) ++ tokens_of_lines (line + 1) (at + length l) ls

-- the tokens of a text, in order
abbrev pub tokens_of : List ℕ → List Token
tokens_of bytes = tokens_of_lines 1 0 (text_lines bytes)

-- the tokens stand one after the other between these two offsets: none is empty, and none begins before the one
-- before it has ended
abbrev pub AreApart : ℕ → List Token → ℕ → Type 0
AreApart from [] to = Unit {0}
AreApart from (t ∷ ts) to = (from ≤ t.start) × (t.start < t.end) × (t.end ≤ to) × AreApart t.end ts to

-- the bytes of the tokens, one token after the other
abbrev pub token_bytes : List ℕ → List Token → List ℕ
token_bytes bytes ts = flat_map (λ t. slice_range bytes t.start t.end) ts

-- a byte that isn't a blank
abbrev pub is_shown : ℕ → Bool
is_shown b = not (is_blank b)

-- the bytes of a text that stand outside comments, without the blanks
abbrev pub shown_bytes : List ℕ → List ℕ
shown_bytes bytes = filter is_shown (flat_map outside (text_lines bytes))
