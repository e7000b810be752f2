-- A line with its LF at the front of a text.
use Rattle.std.proofs.Common.{◌≡◌, ℕ, ◌+◌, ◌<◌, Bool, true, false, List, [], ◌∷◌, ◌++◌, length, take, refl, ap, ◌∙◌, arith, inl, inr, ◌⊎◌, MatchBool}
use Rattle.std.proofs.lemmas.Bool.{or_parts}
use Rattle.std.proofs.lemmas.List.{take_all}
use Rattle.qsr_lex.specs.Bytes.{is_lf}
use Rattle.qsr_lex.specs.TextLines.{add_byte, text_lines, first_line, first_line_len}
use Rattle.qsr_lex.proofs.Scanning.{add_byte-lf}
use Rattle.session_scripts.specs.Commands.{script_line}
use Rattle.session_scripts.specs.Batches.{BatchState, with_line}
use Rattle.session_scripts.specs.Scripts.{IsWholeLine, has_lf, is_commit_line, batches_from, batches_of, committed_from, committed_of}

add-on : (b : ℕ) (l : List ℕ) (ls : List (List ℕ)) → is_lf b ≡ false → add_byte b (l ∷ ls) ≡ (b ∷ l) ∷ ls
add-on b l ls e = rw e refl

whole-by : (c : Bool) (b : ℕ) (bs : List ℕ) → is_lf b ≡ c → MatchBool c (bs ≡ []) (IsWholeLine bs) → ((is_lf b ≡ true) × (bs ≡ [])) ⊎ ((is_lf b ≡ false) × IsWholeLine bs)
whole-by true b bs e w = inl (e, w)
whole-by false b bs e w = inr (e, w)

whole-cases : (b : ℕ) (bs : List ℕ) → IsWholeLine (b ∷ bs) → ((is_lf b ≡ true) × (bs ≡ [])) ⊎ ((is_lf b ≡ false) × IsWholeLine bs)
whole-cases b bs w = whole-by (is_lf b) b bs refl w

-- the line is the first of the lines
pub text_lines-whole : (line rest : List ℕ) → IsWholeLine line → text_lines (line ++ rest) ≡ line ∷ text_lines rest
text_lines-whole [] rest w = absurd w
text_lines-whole (b ∷ bs) rest w = elim (whole-cases b bs w) [
  | inl end ↦ rw end.1 (add_byte-lf b (text_lines rest) end.0)
  | inr on ↦ rw (text_lines-whole bs rest on.1) (add-on b bs (text_lines rest) on.0)
]

pub has_lf-whole : (line : List ℕ) → IsWholeLine line → has_lf line ≡ true
has_lf-whole [] w = absurd w
has_lf-whole (b ∷ bs) w = elim (whole-cases b bs w) [ inl end ↦ rw end.0 refl | inr on ↦ rw (on.0, has_lf-whole bs on.1) refl ]

pub first_line_len-whole : (line : List ℕ) → IsWholeLine line → first_line_len line ≡ length line
first_line_len-whole [] w = absurd w
first_line_len-whole (b ∷ bs) w = elim (whole-cases b bs w) [
  | inl end ↦ rw (end.0, end.1) refl
  | inr on ↦ rw (on.0, first_line_len-whole bs on.1) (omega arith)
]

-- a text without an LF is one line, or none
pub text_lines-open : (text : List ℕ) → 0 < length text → has_lf text ≡ false → text_lines text ≡ text ∷ []
text_lines-open [] some h = absurd (omega arith)
text_lines-open (b ∷ []) some h = refl
text_lines-open (b ∷ c ∷ bs) some h =
    let first : is_lf b ≡ false = (or_parts (is_lf b) (has_lf (c ∷ bs)) h).0 in
    rw (text_lines-open (c ∷ bs) (omega arith) (or_parts (is_lf b) (has_lf (c ∷ bs)) h).1) (add-on b (c ∷ bs) [] first)

pub committed-open : (bases : List (List ℕ)) (n at : ℕ) (batch : BatchState) (text : List ℕ) → has_lf text ≡ false → committed_from bases n at batch (text_lines text) ≡ []
committed-open bases n at batch [] h = refl
committed-open bases n at batch (b ∷ bs) h = rw (text_lines-open (b ∷ bs) (omega arith) h, h) refl

pub first_line_len-open : (text : List ℕ) → has_lf text ≡ false → first_line_len text ≡ length text
first_line_len-open [] h = refl
first_line_len-open (b ∷ bs) h =
    let parts = or_parts (is_lf b) (has_lf bs) h in
    rw (parts.0, first_line_len-open bs parts.1) (omega arith)

-- where an LF follows bytes without one, they are a line with its LF
pub IsWholeLine-found : (line : List ℕ) (b : ℕ) → has_lf line ≡ false → is_lf b ≡ true → IsWholeLine (line ++ b ∷ [])
IsWholeLine-found [] b h e = rw e refl
IsWholeLine-found (c ∷ cs) b h e =
    let parts = or_parts (is_lf c) (has_lf cs) h in
    rw parts.0 (IsWholeLine-found cs b parts.1 e)

-- ---- what has been read of a text

-- the batches of a text, where so much at its front has been read
pub batches-line : (bases : List (List ℕ)) (n at : ℕ) (batch : BatchState) (line rest : List ℕ) → IsWholeLine line → is_commit_line (script_line bases line) ≡ false →
    batches_from bases n at batch (text_lines (line ++ rest)) ≡ batches_from bases n (at + 1) (with_line n at (script_line bases line) batch) (text_lines rest)
batches-line bases n at batch line rest w e = rw (text_lines-whole line rest w, e) refl

pub batches-commit : (bases : List (List ℕ)) (n at : ℕ) (batch : BatchState) (line rest : List ℕ) → IsWholeLine line → is_commit_line (script_line bases line) ≡ true →
    batches_from bases n at batch (text_lines (line ++ rest)) ≡ batch ∷ batches_of bases n rest
batches-commit bases n at batch line rest w e = rw (text_lines-whole line rest w, e) refl

-- those of them that a line `commit` ends
pub committed-line : (bases : List (List ℕ)) (n at : ℕ) (batch : BatchState) (line rest : List ℕ) → IsWholeLine line → is_commit_line (script_line bases line) ≡ false →
    committed_from bases n at batch (text_lines (line ++ rest)) ≡ committed_from bases n (at + 1) (with_line n at (script_line bases line) batch) (text_lines rest)
committed-line bases n at batch line rest w e = rw (text_lines-whole line rest w, has_lf-whole line w, e) refl

pub committed-commit : (bases : List (List ℕ)) (n at : ℕ) (batch : BatchState) (line rest : List ℕ) → IsWholeLine line → is_commit_line (script_line bases line) ≡ true →
    committed_from bases n at batch (text_lines (line ++ rest)) ≡ batch ∷ committed_of bases n rest
committed-commit bases n at batch line rest w e = rw (text_lines-whole line rest w, has_lf-whole line w, e) refl

pub has_lf-push : (bytes : List ℕ) (b : ℕ) → has_lf bytes ≡ false → is_lf b ≡ false → has_lf (bytes ++ b ∷ []) ≡ false
has_lf-push [] b h e = rw e refl
has_lf-push (c ∷ cs) b h e =
    let parts = or_parts (is_lf c) (has_lf cs) h in
    rw (parts.0, has_lf-push cs b parts.1 e) refl

pub first_line-whole : (line : List ℕ) → IsWholeLine line → first_line line ≡ line
first_line-whole line w = ap (λ k. take k line) (first_line_len-whole line w) ∙ take_all (length line) line (omega arith)

pub first_line-open : (text : List ℕ) → has_lf text ≡ false → first_line text ≡ text
first_line-open text h = ap (λ k. take k text) (first_line_len-open text h) ∙ take_all (length text) text (omega arith)

pub length-whole : (line : List ℕ) → IsWholeLine line → 0 < length line
length-whole [] w = absurd w
length-whole (b ∷ bs) w = omega arith
