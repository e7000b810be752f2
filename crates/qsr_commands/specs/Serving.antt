-- What answers a script: the texts of its batches, one after another, from version 0 on.
use Rattle.std.specs.Prelude.{◌≡◌, ◌⊎◌, ◌<◌, ◌≤◌, ◌+◌, ℕ, List, [], ◌∷◌, ◌++◌, length, take, replicate, Option, Some, Result, Ok, Err, IfSome}
use Rattle.std.specs.Io.KnownBytes.{Appends, Consumes, IsAtEnd}
use Rattle.calculus_table.specs.Algebra.{Algebra}
use Rattle.calculus_table.specs.Calculus.{NamedAlgebra}
use Rattle.calculus_table.specs.Composition.{full_of}
use Rattle.network_words.specs.Edge.{edge_count}
use Rattle.qsr_lex.specs.declared.TheConstants.{MAX_TEXT}
use Rattle.qsr_outside.specs.Counts.{Rose, RoseAbove}
use Rattle.qsr_outside.specs.Documents.{Documents}
use Rattle.qsr_words.specs.Asked.{ServeAsked, serve}
use Rattle.session_versions.specs.Stores.{StoreState}
use Rattle.session_scripts.specs.Batches.{BatchState}
use Rattle.session_scripts.specs.Scripts.{batches_of, committed_of}
use Rattle.session_scripts.specs.declared.TheConstants.{PIECE}
use Rattle.session_replies.specs.Replies.{IsAnswered, AreAnswered}
use Rattle.qsr_inputs.specs.Inputs.{CalculusOf}
use Rattle.qsr_inputs.specs.declared.statuses.Status.{Status}
use Rattle.qsr_inputs.specs.declared.statuses.Status.TheVariants.{Done, ReadFault, WriteFault, Memory, TooLong}
use Rattle.qsr_commands.specs.Ends.{IsLongEnd}

-- the store before the first batch: n nodes, and version 0, which has no facts
abbrev pub first_store : Algebra → ℕ → StoreState
first_store m n = record {
  nodes = n;
  calculus = m;
  newest = record {
    number = 0;
    facts = [];
    net = record { nodes = n; full = full_of m; words = replicate (edge_count n) (full_of m); names = [] };
  };
  older = [];
  next_fact = 1;
}

-- the text answers these batches, from version 0 on
pub record IsTextOfBatches (asked : ServeAsked) (c : NamedAlgebra) (batches : List BatchState) (text : List ℕ) : Type 0 where
  pub after : StoreState
  pub answered : AreAnswered c (first_store c.algebra asked.nodes) batches text after

-- the batches of a script, and those that a line `commit` with its LF ends
abbrev pub batches_in : ServeAsked → NamedAlgebra → List ℕ → List BatchState
batches_in asked c script = batches_of c.names asked.nodes script

abbrev pub committed_in : ServeAsked → NamedAlgebra → List ℕ → List BatchState
committed_in asked c script = committed_of c.names asked.nodes script

-- done where all batches of a script are answered; of a script that is too long, those are whose `commit` lies within the limit
abbrev pub ServesScript : ServeAsked → NamedAlgebra → List ℕ → List ℕ → Status → Type 0
ServesScript asked c script text Done = (length script ≤ MAX_TEXT) × IsTextOfBatches asked c (batches_in asked c script) text
ServesScript asked c script text TooLong =
    (MAX_TEXT < length script) × IsTextOfBatches asked c (committed_in asked c (take MAX_TEXT script)) text
ServesScript asked c script text status = ⊥

-- ---- what is written of a script, by how its answering ends, where the source had these bytes and what is left is told

-- the text of what was served, whole
pub record WritesServed (asked : ServeAsked) (c : NamedAlgebra) (script : List ℕ) (old new : Option (List ℕ)) (status : Status) : Type 0 where
  pub text : List ℕ
  pub appended : Appends old new text
  pub serves : ServesScript asked c script text status

-- where a read failed: the texts of the batches whose `commit` was given with its LF
pub record WritesGiven (asked : ServeAsked) (c : NamedAlgebra) (script : List ℕ) (left old new : Option (List ℕ)) : Type 0 where
  pub given : List ℕ
  pub consumes : Consumes (Some script) left given
  pub text : List ℕ
  pub appended : Appends old new text
  pub is_text : IsTextOfBatches asked c (committed_in asked c given) text

-- where memory ran out: the texts of some first batches, whole
pub record WritesFirst (asked : ServeAsked) (c : NamedAlgebra) (script : List ℕ) (old new : Option (List ℕ)) : Type 0 where
  pub first : List BatchState
  pub others : List BatchState
  pub batches : batches_in asked c script ≡ first ++ others
  pub text : List ℕ
  pub appended : Appends old new text
  pub is_text : IsTextOfBatches asked c first text

-- where the sink failed: the texts of some first batches, whole, and a part of that of the next one. The source gave less than a
-- piece after that batch
pub record WritesPartOfBatch (asked : ServeAsked) (c : NamedAlgebra) (script : List ℕ) (left old new : Option (List ℕ)) : Type 0 where
  pub whole : List ℕ
  pub kept : List ℕ
  pub consumes : Consumes (Some script) left (whole ++ kept)
  pub few : length kept < PIECE
  pub first : List BatchState
  pub batch : BatchState
  pub others : List BatchState
  pub batches_of_whole : batches_in asked c whole ≡ first ++ batch ∷ []
  pub batches : batches_in asked c script ≡ (first ++ batch ∷ []) ++ others
  pub written : List ℕ
  pub between : StoreState
  pub answered : AreAnswered c (first_store c.algebra asked.nodes) first written between
  pub text : List ℕ
  pub after : StoreState
  pub next : IsAnswered c between batch text after
  pub taken : ℕ
  pub within : taken < length text
  pub appended : Appends old new (written ++ take taken text)

abbrev pub WritesByStatus : ServeAsked → NamedAlgebra → List ℕ → Option (List ℕ) → Option (List ℕ) → Option (List ℕ) → Status → Type 0
WritesByStatus asked c script left old new Done = WritesServed asked c script old new Done
WritesByStatus asked c script left old new TooLong = WritesServed asked c script old new TooLong
WritesByStatus asked c script left old new ReadFault = WritesGiven asked c script left old new
WritesByStatus asked c script left old new Memory = WritesFirst asked c script old new
WritesByStatus asked c script left old new WriteFault = WritesPartOfBatch asked c script left old new
WritesByStatus asked c script left old new status = ⊥

-- ---- the answering of a script over a calculus that is known

-- how it ends, which may be out of memory
abbrev pub end_of_serving : {E : Type 0} → Result Status E → Status
end_of_serving (Ok status) = status
end_of_serving (Err out_of_memory) = Memory

-- the ends of it
abbrev pub IsServing : Status → Type 0
IsServing Done = Unit {0}
IsServing TooLong = Unit {0}
IsServing ReadFault = Unit {0}
IsServing Memory = Unit {0}
IsServing WriteFault = Unit {0}
IsServing status = ⊥

pub record Serves {S W : Type 0} (left : S → Option (List ℕ)) (faults given : S → ℕ) (held : W → Option (List ℕ)) (sink_faults : W → ℕ)
    (asked : ServeAsked) (c : NamedAlgebra) (old new : S) (sink_old sink_new : W) (result : Status) : Type 0 where
  pub writes : IfSome (left old) (λ script. WritesByStatus asked c script (left new) (held sink_old) (held sink_new) result)
  pub status : IsServing result
  pub read_fault : result ≡ ReadFault → Rose (faults old) (faults new)
  pub write_fault : result ≡ WriteFault → Rose (sink_faults sink_old) (sink_faults sink_new)
  pub read_faults_are_told : (result ≡ ReadFault) ⊎ (faults new ≡ faults old)
  pub write_faults_are_told : (result ≡ WriteFault) ⊎ (sink_faults sink_new ≡ sink_faults sink_old)
  pub too_long : result ≡ TooLong → RoseAbove (given old) (given new) MAX_TEXT
  pub above : given old + MAX_TEXT < given new → IsLongEnd result (Some (serve asked))
  pub ends : result ≡ Done → IsAtEnd (left new)
  pub faults_never_fall : faults old ≤ faults new
  pub sink_faults_never_fall : sink_faults sink_old ≤ sink_faults sink_new

-- ---- what the documents give it

-- the documents give a calculus, over which this holds
pub record Over (asked : ServeAsked) (documents : Documents) (Fact : NamedAlgebra → Type 0) : Type 0 where
  pub calculus : NamedAlgebra
  pub gives : CalculusOf documents asked.calculus (Ok calculus)
  pub holds : Fact calculus
