-- Scripts: batches of command lines, each with a commit at its end, but for the last one.
use Rattle.std.specs.Prelude.{◌≡◌, ℕ, ◌+◌, List, [], ◌∷◌, length, ◌==◌, Bool, true, false, ◌&&◌, MatchBool, if◌then◌else◌}
use Rattle.std.specs.List.{list_any}
use Rattle.qsr_lex.specs.Bytes.{is_lf}
use Rattle.qsr_lex.specs.TextLines.{text_lines}
use Rattle.session_scripts.specs.Commands.{ScriptLine, Blank, Commit, Malformed, Said, script_line}
use Rattle.session_scripts.specs.Batches.{BatchState, no_lines, with_line}

-- the line is `commit` alone
abbrev pub is_commit_line : ScriptLine → Bool
is_commit_line Commit = true
is_commit_line Blank = false
is_commit_line Malformed = false
is_commit_line (Said session command) = false

-- the batch at the end of a script, which counts if it has a line
abbrev pub last_batch : BatchState → List BatchState
last_batch batch = if length batch.lines == 0 then [] else batch ∷ []

-- the batches of lines, of which the first goes on from `batch` and has the next line at `at`
abbrev pub batches_from : List (List ℕ) → ℕ → ℕ → BatchState → List (List ℕ) → List BatchState
batches_from bases n at batch [] = last_batch batch
batches_from bases n at batch (l ∷ ls) =
    if is_commit_line (script_line bases l) then batch ∷ batches_from bases n 1 no_lines ls
    else batches_from bases n (at + 1) (with_line n at (script_line bases l) batch) ls

-- the batches of a script, where the base relations have these names and there are n nodes
abbrev pub batches_of : List (List ℕ) → ℕ → List ℕ → List BatchState
batches_of bases n text = batches_from bases n 1 no_lines (text_lines text)

-- ---- a text that is cut off somewhere

-- an LF is among the bytes
abbrev pub has_lf : List ℕ → Bool
has_lf bytes = list_any is_lf bytes

-- the bytes are a line with its LF: it ends there and nowhere before
abbrev pub IsWholeLine : List ℕ → Type 0
IsWholeLine [] = ⊥
IsWholeLine (b ∷ bs) = MatchBool (is_lf b) (bs ≡ []) (IsWholeLine bs)

-- a line with its LF is `commit` alone
abbrev pub is_whole_commit : List (List ℕ) → List ℕ → Bool
is_whole_commit bases line = has_lf line && is_commit_line (script_line bases line)

-- the batches of lines that a line `commit` with its LF ends, of which the first goes on from `batch` and has the next line at `at`
abbrev pub committed_from : List (List ℕ) → ℕ → ℕ → BatchState → List (List ℕ) → List BatchState
committed_from bases n at batch [] = []
committed_from bases n at batch (l ∷ ls) =
    if is_whole_commit bases l then batch ∷ committed_from bases n 1 no_lines ls
    else committed_from bases n (at + 1) (with_line n at (script_line bases l) batch) ls

-- those of a text
abbrev pub committed_of : List (List ℕ) → ℕ → List ℕ → List BatchState
committed_of bases n text = committed_from bases n 1 no_lines (text_lines text)
