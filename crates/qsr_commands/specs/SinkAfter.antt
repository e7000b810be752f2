-- What a run leaves in its sink, by its status.
use Rattle.std.specs.Prelude.{◌≡◌, ◌⊎◌, ℕ, false, List, Option, Some}
use Rattle.std.specs.Io.KnownBytes.{Appends, Keeps}
use Rattle.qsr_outside.specs.Documents.{Documents}
use Rattle.qsr_outside.specs.Writing.{AppendsPart}
use Rattle.qsr_words.specs.Asked.{Asked, serve}
use Rattle.qsr_inputs.specs.Told.{is_served}
use Rattle.qsr_inputs.specs.declared.statuses.Status.{Status}
use Rattle.qsr_inputs.specs.declared.statuses.Status.TheVariants.{Done, No, Usage, Refused, ReadFault, WriteFault, Memory, Budget, NotAccepted, TooLong}
use Rattle.qsr_answers.specs.Texts.{refusal_text, usage_text, not_accepted_text}
use Rattle.qsr_commands.specs.Ends.{MayEnd}
use Rattle.qsr_commands.specs.Output.{Output}
use Rattle.qsr_commands.specs.Serving.{Over, WritesGiven, WritesFirst, WritesPartOfBatch}

-- the bytes held, where told, grew by a whole text that is permitted with this status
pub record WritesOutput (asked : Option Asked) (documents : Documents) (bytes : List ℕ) (old new : Option (List ℕ)) (status : Status) : Type 0 where
  pub text : List ℕ
  pub appended : Appends old new text
  pub output : Output asked documents bytes text status

-- the bytes held, where told, grew by a part of a text that is permitted
pub record WritesPart (asked : Option Asked) (documents : Documents) (bytes : List ℕ) (old new : Option (List ℕ)) : Type 0 where
  pub text : List ℕ
  pub status : Status
  pub appended : AppendsPart old new text
  pub output : Output asked documents bytes text status

-- nothing where reading failed; of a script, the texts of the batches that were given whole, unless it was the shelf that failed
abbrev pub LeavesAtReadFault : Option Asked → Documents → List ℕ → Option (List ℕ) → Option (List ℕ) → Option (List ℕ) → Type 0
LeavesAtReadFault (Some (serve asked)) documents bytes left old new =
    (Keeps (Some bytes) left × Keeps old new) ⊎ Over asked documents (λ c. WritesGiven asked c bytes left old new)
LeavesAtReadFault asked documents bytes left old new = Keeps old new

-- nothing where memory ran out; of a script, the texts of some first batches
abbrev pub LeavesOutOfMemory : Option Asked → Documents → List ℕ → Option (List ℕ) → Option (List ℕ) → Type 0
LeavesOutOfMemory (Some (serve asked)) documents bytes old new =
    Keeps old new ⊎ Over asked documents (λ c. WritesFirst asked c bytes old new)
LeavesOutOfMemory asked documents bytes old new = Keeps old new

-- a part of a text where the sink failed; of a script, the texts of some first batches and a part of the next one's
abbrev pub LeavesAtWriteFault : Option Asked → Documents → List ℕ → Option (List ℕ) → Option (List ℕ) → Option (List ℕ) → Type 0
LeavesAtWriteFault (Some (serve asked)) documents bytes left old new =
    WritesPart (Some (serve asked)) documents bytes old new ⊎ Over asked documents (λ c. WritesPartOfBatch asked c bytes left old new)
LeavesAtWriteFault asked documents bytes left old new = WritesPart asked documents bytes old new

-- over inputs that are told, where this is left of the source: nothing where reading failed or memory ran out, a part of a text where
-- the sink failed, else a whole text
abbrev pub LeavesInSink : Option Asked → Documents → List ℕ → Option (List ℕ) → Option (List ℕ) → Option (List ℕ) → Status → Type 0
LeavesInSink asked documents bytes left old new ReadFault = LeavesAtReadFault asked documents bytes left old new
LeavesInSink asked documents bytes left old new Memory = LeavesOutOfMemory asked documents bytes old new
LeavesInSink asked documents bytes left old new WriteFault = LeavesAtWriteFault asked documents bytes left old new
LeavesInSink asked documents bytes left old new status = WritesOutput asked documents bytes old new status

-- over every input: the text that belongs to the status alone, whole, and nothing where there is none to write, but for a script
abbrev pub LeavesByStatus : Option Asked → Option (List ℕ) → Option (List ℕ) → Status → Type 0
LeavesByStatus asked old new Usage = Appends old new usage_text
LeavesByStatus asked old new (Refused number place) = Appends old new (refusal_text number place)
LeavesByStatus asked old new (NotAccepted number place) = Appends old new (not_accepted_text number place)
LeavesByStatus asked old new ReadFault = is_served asked ≡ false → Keeps old new
LeavesByStatus asked old new Memory = is_served asked ≡ false → Keeps old new
LeavesByStatus asked old new TooLong = is_served asked ≡ false → Keeps old new
LeavesByStatus asked old new status = Unit {0}

-- an answer's text is the one that belongs to its status, where one does
abbrev pub IsTextOf : List ℕ → Status → Type 0
IsTextOf text Done = Unit {0}
IsTextOf text No = Unit {0}
IsTextOf text Budget = Unit {0}
IsTextOf text Usage = text ≡ usage_text
IsTextOf text (Refused number place) = text ≡ refusal_text number place
IsTextOf text (NotAccepted number place) = text ≡ not_accepted_text number place
IsTextOf text status = ⊥

-- an answer that is written whole, unless the sink fails
pub record IsWritten (asked : Option Asked) (text : List ℕ) (status : Status) : Type 0 where
  pub may_end : MayEnd asked status
  pub is_text : IsTextOf text status
