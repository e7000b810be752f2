-- How the lines of a text come off its front, and what they are of the whole text.
use Rattle.std.proofs.Common.{◌≡◌, ℕ, ◌+◌, ◌<◌, Bool, true, false, cond, List, [], ◌∷◌, length, Some, refl, sym, ap, ◌∙◌, arith}
use Rattle.std.specs.List.{list_all}
use Rattle.qsr_lex.specs.Lexemes.{Lexeme, lexemes}
use Rattle.qsr_lex.specs.TextLines.{text_lines, outside, first_line, after_first_line, is_clean, clean_front, bad_line, bad_line_from, line_count, readable_text, IsFirstLine}
use Rattle.qsr_lex.specs.TokenLines.{TokenLine, token_line, add_line, token_lines_from}
use Rattle.qsr_lex.specs.Printed.{are_tokens, printed, printed_token_lines}
use Rattle.qsr_lex.proofs.Scanning.{text_lines-front}
use Rattle.qsr_lex.proofs.Spans.{length-text_lines}
use Rattle.qsr_lex.proofs.CleanLines.{text_lines-readable, readable_text-all}
use Rattle.qsr_lex.proofs.PrintedText.{IsReadAgain-from_tokens}
use Rattle.line_files.specs.declared.lines.TextEnd.TheVariants.{BadLine, Whole}
use Rattle.line_files.specs.FileText.{file_with, add_file_line, file_text_from, file_text, end_at, readable_lines, printed_lines}

-- ---- the first line

pub file_text-line : (n : ℕ) (text part after : List ℕ) → 0 < length text → IsFirstLine text part after
    → file_text_from n (text_lines text) ≡ add_file_line (n + 1) (lexemes part) (file_text_from (n + 1) (text_lines after))
file_text-line n text part after some is =
    ap (file_text_from n) (text_lines-front text some)
    ∙ ap (λ c. cond c (add_file_line (n + 1) (lexemes (outside (first_line text))) (file_text_from (n + 1) (text_lines (after_first_line text)))) (file_with [] (BadLine (n + 1)))) is.clean
    ∙ ap (λ p. add_file_line (n + 1) (lexemes p) (file_text_from (n + 1) (text_lines (after_first_line text)))) (sym is.is_part)
    ∙ ap (λ bs. add_file_line (n + 1) (lexemes part) (file_text_from (n + 1) (text_lines bs))) (sym is.is_after)

-- a line without tokens is passed over
pub file_text-blank : (n : ℕ) (text part after : List ℕ) → 0 < length text → IsFirstLine text part after → lexemes part ≡ []
    → file_text_from n (text_lines text) ≡ file_text_from (n + 1) (text_lines after)
file_text-blank n text part after some is none =
    file_text-line n text part after some is ∙ ap (λ xs. add_file_line (n + 1) xs (file_text_from (n + 1) (text_lines after))) none

-- a line that can't be read ends the lines
pub file_text-bad : (n : ℕ) (text : List ℕ) → 0 < length text → is_clean (first_line text) ≡ false → file_text_from n (text_lines text) ≡ file_with [] (BadLine (n + 1))
file_text-bad n text some bad =
    ap (file_text_from n) (text_lines-front text some)
    ∙ ap (λ c. cond c (add_file_line (n + 1) (lexemes (outside (first_line text))) (file_text_from (n + 1) (text_lines (after_first_line text)))) (file_with [] (BadLine (n + 1)))) bad

-- the text ends
pub file_text-end : (n : ℕ) (text : List ℕ) → length text ≡ 0 → file_text_from n (text_lines text) ≡ file_with [] (Whole n)
file_text-end n [] h = refl
file_text-end n (b ∷ bs) h = absurd (omega arith)

-- tokens of a line that has some
pub add_line-some : (n : ℕ) (xs : List Lexeme) (ls : List TokenLine) → (xs ≡ [] → ⊥) → add_line n xs ls ≡ token_line n xs ∷ ls
add_line-some n [] ls h = absurd (h refl)
add_line-some n (x ∷ xs) ls h = refl

-- ---- the whole text

from_line : (n k : ℕ) (l : List ℕ) (ls : List (List ℕ)) (c : Bool) → is_clean l ≡ c → k ≡ n + 1 + length ls
    → file_text_from (n + 1) ls ≡ file_with (token_lines_from (n + 1 + 1) (clean_front ls)) (end_at (bad_line_from (n + 1 + 1) ls) (n + 1 + length ls))
    → cond c (add_file_line (n + 1) (lexemes (outside l)) (file_text_from (n + 1) ls)) (file_with [] (BadLine (n + 1)))
    ≡ file_with (token_lines_from (n + 1) (cond c (l ∷ clean_front ls) [])) (end_at (cond c (bad_line_from (n + 1 + 1) ls) (Some (n + 1))) k)
from_line n k l ls true is count h =
    ap (add_file_line (n + 1) (lexemes (outside l))) h
    ∙ ap (λ m. file_with (add_line (n + 1) (lexemes (outside l)) (token_lines_from (n + 1 + 1) (clean_front ls))) (end_at (bad_line_from (n + 1 + 1) ls) m)) (sym count)
from_line n k l ls false is count h = refl

file_text_from-readable : (n : ℕ) (ls : List (List ℕ)) → file_text_from n ls ≡ file_with (token_lines_from (n + 1) (clean_front ls)) (end_at (bad_line_from (n + 1) ls) (n + length ls))
file_text_from-readable n [] = let e : n ≡ n + 0 = omega arith in ap (λ k. file_with [] (Whole k)) e
file_text_from-readable n (l ∷ ls) = from_line n (n + length (l ∷ ls)) l ls (is_clean l) refl (omega arith) (file_text_from-readable (n + 1) ls)

pub file_text-readable : (bytes : List ℕ) → file_text bytes ≡ readable_lines bytes
file_text-readable bytes =
    let counted : 0 + length (text_lines bytes) ≡ line_count bytes = omega (arith, length-text_lines bytes) in
    file_text_from-readable 0 (text_lines bytes)
    ∙ ap (λ ls. file_with (token_lines_from 1 ls) (end_at (bad_line bytes) (0 + length (text_lines bytes)))) (sym (text_lines-readable bytes))
    ∙ ap (λ k. file_with (token_lines_from 1 (text_lines (readable_text bytes))) (end_at (bad_line bytes) k)) counted

pub file_text-printed : (text : List (List (List ℕ))) → list_all are_tokens text ≡ true → file_text (printed text) ≡ printed_lines text
file_text-printed text h =
    let again = IsReadAgain-from_tokens text h in
    let bytes = printed text in
    file_text-readable bytes
    ∙ ap (λ x. file_with (token_lines_from 1 (text_lines x)) (end_at (bad_line bytes) (line_count bytes))) (readable_text-all bytes again.clean)
    ∙ ap (λ ls. file_with ls (end_at (bad_line bytes) (line_count bytes))) again.lines
    ∙ ap (λ x. file_with (printed_token_lines 1 text) (end_at x (line_count bytes))) again.clean
    ∙ ap (λ k. file_with (printed_token_lines 1 text) (Whole k)) again.count
