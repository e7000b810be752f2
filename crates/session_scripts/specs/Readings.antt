-- What was read of a text: a batch of its first lines, up to a line `commit` or to a line without an LF.
use Rattle.std.specs.Prelude.{◌≡◌, ℕ, ◌+◌, ◌-◌, ◌^◌, ◌<◌, ◌≤◌, List, ◌∷◌, ◌++◌, length, take, drop, false}
use Rattle.qsr_lex.specs.TextLines.{text_lines}
use Rattle.session_scripts.specs.Batches.{IsBatchFor}
use Rattle.session_scripts.specs.Scripts.{batches_from, batches_of, committed_from, committed_of, has_lf}
use Rattle.session_scripts.specs.declared.reading.Reading.{Reading}

-- the lines before the place `from` are those of the batch, and none is `commit`; whatever follows them, the text goes on from
-- there
pub record IsRead (bases : List (List ℕ)) (n : ℕ) (text : List ℕ) (r : Reading) : Type 0 where
  pub within : r.from + r.searched ≤ length text
  pub few : r.at ≤ r.from + 1
  pub batches : (rest : List ℕ) → batches_of bases n (take r.from text ++ rest) ≡ batches_from bases n r.at r.batch (text_lines rest)
  pub committed : (rest : List ℕ) → committed_of bases n (take r.from text ++ rest) ≡ committed_from bases n r.at r.batch (text_lines rest)
  pub no_lf : has_lf (take r.searched (drop r.from text)) ≡ false
  pub fits : IsBatchFor (2 ^ length bases - 1) n r.batch

-- the lines before the place `from` are those of the batch, and the last of them is its `commit`
pub record IsCommitted (bases : List (List ℕ)) (n : ℕ) (text : List ℕ) (r : Reading) : Type 0 where
  pub some : 0 < r.from
  pub within : r.from ≤ length text
  pub batches : (rest : List ℕ) → batches_of bases n (take r.from text ++ rest) ≡ r.batch ∷ batches_of bases n rest
  pub committed : (rest : List ℕ) → committed_of bases n (take r.from text ++ rest) ≡ r.batch ∷ committed_of bases n rest
  pub fits : IsBatchFor (2 ^ length bases - 1) n r.batch
