-- The lines of a text as a reader of files goes over them.
use Rattle.std.specs.Prelude.{ℕ, ◌+◌, ◌≤◌, List, [], ◌∷◌, length, Option, Some, None, option_map, if◌then◌else◌}
use Rattle.qsr_lex.specs.Lexemes.{Lexeme, lexemes}
use Rattle.qsr_lex.specs.TextLines.{text_lines, outside, is_clean, bad_line, line_count, readable_text}
use Rattle.qsr_lex.specs.TokenLines.{TokenLine, token_line, add_line, token_lines}
use Rattle.qsr_lex.specs.LineTokens.{after_word}
use Rattle.qsr_lex.specs.Printed.{printed_token_lines}
use Rattle.qsr_lex.specs.declared.TheConstants.{MAX_TEXT}
use Rattle.line_files.specs.declared.lines.TextEnd.{TextEnd}
use Rattle.line_files.specs.declared.lines.TextEnd.TheVariants.{BadLine, Whole}

-- the lines that have tokens, up to the first one with a byte that isn't allowed, and what stands after them: that line, or
-- the end of the text
pub record FileText : Type 0 where
  pub lines : List TokenLine
  pub end : TextEnd

-- a text with these lines and this end
abbrev pub file_with : List TokenLine → TextEnd → FileText
file_with lines end = record { lines = lines; end = end }

-- a line in front of others; one without tokens is passed over
abbrev pub add_file_line : ℕ → List Lexeme → FileText → FileText
add_file_line n tokens text = file_with (add_line n tokens text.lines) text.end

-- lines after n others
abbrev pub file_text_from : ℕ → List (List ℕ) → FileText
file_text_from n [] = file_with [] (Whole n)
file_text_from n (l ∷ ls) =
    if is_clean l then add_file_line (n + 1) (lexemes (outside l)) (file_text_from (n + 1) ls)
    else file_with [] (BadLine (n + 1))

-- the lines of a text
abbrev pub file_text : List ℕ → FileText
file_text bytes = file_text_from 0 (text_lines bytes)

-- the first of the lines where it begins with this word, with the tokens after the word, and the lines after it
abbrev pub line_of : List ℕ → List TokenLine → Option (TokenLine × List TokenLine)
line_of word [] = None
line_of word (l ∷ ls) = option_map (λ after. (token_line l.number after, ls)) (after_word word l.tokens)

-- the next line that has tokens or can't be read, where there is one
abbrev pub extra_line : List TokenLine → TextEnd → Option ℕ
extra_line (l ∷ ls) end = Some l.number
extra_line [] (BadLine line) = Some line
extra_line [] (Whole lines) = None

-- a text has no more lines than it may have bytes
abbrev pub IsEndWithin : TextEnd → Type 0
IsEndWithin (BadLine line) = Unit {0}
IsEndWithin (Whole lines) = lines ≤ MAX_TEXT

-- ---- the same, said of the whole text

-- a line with a byte that isn't allowed, or the end after so many lines
abbrev pub end_at : Option ℕ → ℕ → TextEnd
end_at (Some line) lines = BadLine line
end_at None lines = Whole lines

-- the lines that have tokens of the text in front of the first line with a byte that isn't allowed, and that line or the end
abbrev pub readable_lines : List ℕ → FileText
readable_lines bytes = file_with (token_lines (readable_text bytes)) (end_at (bad_line bytes) (line_count bytes))

-- lines of tokens that are printed, each on a line of its own
abbrev pub printed_lines : List (List (List ℕ)) → FileText
printed_lines text = file_with (printed_token_lines 1 text) (Whole (length text))
