-- The lines of a batch, dealt to its sessions, and the sets that they show, by their places among the lines.
use Rattle.std.specs.Prelude.{◌≡◌, ℕ, ◌<◌, List, [], length, map, filter, ◌==◌, slice_index_or}
use Rattle.std.specs.List.{enumerate_from}
use Rattle.session_scripts.specs.declared.batch.What.{What}
use Rattle.session_scripts.specs.declared.batch.Line.{Line}
use Rattle.session_scripts.specs.Batches.{BatchState}

-- the lines of the session with this place, each with its place among the lines, of which the first has the place `at`
abbrev pub lines_from : ℕ → ℕ → List Line → List (ℕ × What)
lines_from session at lines =
    map (λ (p : ℕ × Line). (p.0, p.1.what)) (filter (λ (p : ℕ × Line). p.1.session == session) (enumerate_from at lines))

-- the same, from the first line on
abbrev pub lines_by : ℕ → List Line → List (ℕ × What)
lines_by session lines = lines_from session 0 lines

-- each session has its own lines to do
pub record AreDealt (batch : BatchState) (asked : List (List (ℕ × What))) : Type 0 where
  pub count : length asked ≡ length batch.sessions
  pub each : (k : ℕ) → k < length asked → slice_index_or asked k [] ≡ lines_by k batch.lines
