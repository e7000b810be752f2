-- What contracts see of a reader of a script that comes piece by piece.
use Rattle.std.specs.Prelude.{◌≡◌, ◌⊎◌, ℕ, ◌+◌, ◌-◌, ◌<◌, ◌≤◌, List, [], ◌∷◌, ◌++◌, length, take, Bool, true, false, Option, None, Some, Result, Ok, Err, IfOk}
use Rattle.std.specs.Io.KnownBytes.{Consumes, IsAtEnd}
use Rattle.qsr_outside.specs.Counts.{Rose, RoseBy}
use Rattle.qsr_outside.specs.declared.reading.ReadStop.{ReadStop}
use Rattle.qsr_outside.specs.declared.reading.ReadStop.TheVariants.{ReadFault, TooLong}
use Rattle.session_scripts.specs.Batches.{BatchState}
use Rattle.session_scripts.specs.Scripts.{batches_of, committed_of}
use Rattle.session_scripts.specs.declared.TheConstants.{PIECE}

-- the most bytes that a script may have, how many of the bytes given belong to batches that were answered, those that don't,
-- whether the input has ended, and why no more is read, if there is a stop
pub record ReaderState : Type 0 where
  pub limit : ℕ
  pub cut : ℕ
  pub kept : List ℕ
  pub ended : Bool
  pub stop : Option ReadStop

-- a reader to which nothing was given
abbrev pub new_reader : ℕ → ReaderState
new_reader limit = record { limit = limit; cut = 0; kept = []; ended = false; stop = None }

-- how many bytes were given over all calls
abbrev pub given_to : ReaderState → ℕ
given_to reader = reader.cut + length reader.kept

-- the bytes are those of a batch with its line `commit`, whatever comes after them; less than a piece was taken after it
pub record EndsAtCommit (bases : List (List ℕ)) (n : ℕ) (batch : BatchState) (whole kept : List ℕ) : Type 0 where
  pub batches : (rest : List ℕ) → batches_of bases n (whole ++ rest) ≡ batch ∷ batches_of bases n rest
  pub committed : (rest : List ℕ) → committed_of bases n (whole ++ rest) ≡ batch ∷ committed_of bases n rest
  pub few : length kept < PIECE

-- the input has ended, and the bytes are those of the last batch
pub record EndsAtEnd (bases : List (List ℕ)) (n : ℕ) (batch : BatchState) (whole : List ℕ) (new : ReaderState) : Type 0 where
  pub batches : batches_of bases n whole ≡ batch ∷ []
  pub none_kept : new.kept ≡ []
  pub ended : new.ended ≡ true

-- a batch was cut off the front of a text that isn't longer than the limit up to there
pub record CutsBatch (bases : List (List ℕ)) (n : ℕ) (text : List ℕ) (old new : ReaderState) (batch : BatchState) : Type 0 where
  pub whole : List ℕ
  pub some : 0 < length whole
  pub text_is : text ≡ whole ++ new.kept
  pub cut_is : new.cut ≡ old.cut + length whole
  pub within : new.cut ≤ old.limit
  pub ends : EndsAtCommit bases n batch whole new.kept ⊎ EndsAtEnd bases n batch whole new

-- the input has ended, within the limit, and no batch is left in the text
pub record HasNoBatch (bases : List (List ℕ)) (n : ℕ) (text : List ℕ) (old new : ReaderState) : Type 0 where
  pub batches : batches_of bases n text ≡ []
  pub ended : new.ended ≡ true
  pub within : old.cut + length text ≤ old.limit

abbrev pub IsNext : List (List ℕ) → ℕ → List ℕ → ReaderState → ReaderState → Option BatchState → Type 0
IsNext bases n text old new None = HasNoBatch bases n text old new
IsNext bases n text old new (Some batch) = CutsBatch bases n text old new batch

-- the stop of a result
abbrev pub stop_of : {A : Type 0} → Result A ReadStop → Option ReadStop
stop_of (Ok value) = None
stop_of (Err stop) = Some stop

-- a reader that hasn't stopped reads the next batch, or stops: a read failed, or more than the limit was given, and no line
-- `commit` that was given whole, or that lies within the limit, is left
pub record ReadsNext (bases : List (List ℕ)) (n : ℕ) (old new : ReaderState) (left_old left_new : Option (List ℕ))
    (given_old given_new faults_old faults_new : ℕ) (result : Result (Option BatchState) ReadStop) : Type 0 where
  pub taken : List ℕ
  pub consumes : Consumes left_old left_new taken
  pub counts : RoseBy given_old given_new (length taken)
  pub given_is : given_to new ≡ given_to old + length taken
  pub limit_stays : new.limit ≡ old.limit
  pub next : IfOk result (λ found. IsNext bases n (old.kept ++ taken) old new found)
  pub stop_is : new.stop ≡ stop_of result
  pub end_is_met : old.ended ≡ false → new.ended ≡ true → IsAtEnd left_new
  pub end_stays : old.ended ≡ true → new.ended ≡ true
  pub read_fault : result ≡ Err ReadFault → Rose faults_old faults_new
  pub whole_before_fault : result ≡ Err ReadFault → committed_of bases n (old.kept ++ taken) ≡ []
  pub within_before_fault : result ≡ Err ReadFault → given_to new ≤ old.limit
  pub too_long : result ≡ Err TooLong → old.limit < given_to new
  pub whole_before_long : result ≡ Err TooLong → committed_of bases n (take (old.limit - old.cut) (old.kept ++ taken)) ≡ []
  pub faults_are_told : (result ≡ Err ReadFault) ⊎ (faults_new ≡ faults_old)

-- ---- pieces

-- bytes were taken from a source and are kept after those that were kept; none after the end of the input
pub record TakesBytes (old new : ReaderState) (left_old left_new : Option (List ℕ)) (given_old given_new : ℕ) : Type 0 where
  pub taken : List ℕ
  pub consumes : Consumes left_old left_new taken
  pub counts : RoseBy given_old given_new (length taken)
  pub kept_is : new.kept ≡ old.kept ++ taken
  pub cut_stays : new.cut ≡ old.cut
  pub limit_stays : new.limit ≡ old.limit
  pub end_is_met : old.ended ≡ false → new.ended ≡ true → IsAtEnd left_new
  pub end_stays : old.ended ≡ true → new.ended ≡ true
  pub waits : old.ended ≡ true → left_new ≡ left_old
