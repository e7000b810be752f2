-- What the answer of a command promises, of the shelf and of the source, as records over the meanings of both.
use Rattle.std.specs.Prelude.{◌≡◌, ◌⊎◌, ◌+◌, ◌<◌, ◌≤◌, ℕ, ⊤, List, [], Option, Some, Result, Err, IfOk, IfErr, OnOk}
use Rattle.std.specs.String.{string_bytes}
use Rattle.std.specs.Io.KnownBytes.{IsAtEnd}
use Rattle.qsr_lex.specs.declared.TheConstants.{MAX_TEXT}
use Rattle.qsr_outside.specs.Counts.{Rose, RoseAbove}
use Rattle.qsr_outside.specs.Documents.{Documents}
use Rattle.qsr_outside.specs.Reading.{IsTooLongOrMemory as IsTooLongRead}
use Rattle.qsr_outside.specs.declared.reading.ReadStop.{ReadStop}
use Rattle.qsr_outside.specs.declared.reading.ReadStop.TheVariants as read
use Rattle.qsr_words.specs.Asked.{Asked}
use Rattle.qsr_inputs.specs.Stops.{IsTooLongStop}
use Rattle.qsr_inputs.specs.Told.{WhereTold, SourceWaits, AbsentStays, AfterSource, named_documents, documents_of}
use Rattle.qsr_inputs.specs.declared.statuses.Status.{Status}
use Rattle.qsr_inputs.specs.declared.statuses.Status.TheVariants as status
use Rattle.qsr_inputs.specs.declared.stops.Stop.{Stop}
use Rattle.qsr_inputs.specs.declared.stops.Stop.TheVariants as stop
use Rattle.qsr_answers.specs.Texts.{refusal_text}
use Rattle.qsr_answers.specs.Commands.{IsAnswered}
use Rattle.qsr_answers.specs.declared.answers.Answer.{Answer}
use Rattle.qsr_commands.specs.Output.{Output, OutputOf}
use Rattle.qsr_commands.specs.Ends.{MayEnd, end_of_stop}
use Rattle.qsr_commands.specs.SinkAfter.{IsWritten}

-- ---- a command

-- the output of a stop, where it has one
abbrev pub OutputOfStop : Asked → Documents → List ℕ → Stop → Type 0
OutputOfStop asked documents bytes (stop.Refused number place) =
    OutputOf asked documents bytes (refusal_text number place) (status.Refused number place)
OutputOfStop asked documents bytes stop.TooLong = OutputOf asked documents bytes [] status.TooLong
OutputOfStop asked documents bytes stop.ReadFault = ⊤
OutputOfStop asked documents bytes stop.Memory = ⊤

-- the end of a stop
abbrev pub end_of : Stop → Status
end_of (stop.Refused number place) = status.Refused number place
end_of stop.TooLong = status.TooLong
end_of stop.ReadFault = status.ReadFault
end_of stop.Memory = status.Memory

-- a command is answered from the shelf and the source, or stops
pub record Answers {F S : Type 0} (documents : F → Option Documents) (faults given absent_openings : F → ℕ)
    (left : S → Option (List ℕ)) (source_faults source_given : S → ℕ) (asked : Asked)
    (old new : F) (source_old source_new : S) (result : Result Answer Stop) : Type 0 where
  pub output : IfOk result (λ a. WhereTold (Some asked) (documents old) (left source_old) (λ d b.
      OutputOf asked d b (string_bytes a.text) a.status))
  pub written : IfOk result (λ a. IsWritten (Some asked) (string_bytes a.text) a.status)
  pub cause : IfErr result (λ s. WhereTold (Some asked) (documents old) (left source_old) (λ d b. OutputOfStop asked d b s))
  pub may_end : IfErr result (λ s. MayEnd (Some asked) (end_of s))
  pub ends : OnOk result (AfterSource (Some asked) (IsAtEnd (left source_new)))
  pub read_fault : result ≡ Err stop.ReadFault → Rose (faults old) (faults new) ⊎ Rose (source_faults source_old) (source_faults source_new)
  pub too_long : result ≡ Err stop.TooLong →
      RoseAbove (given old) (given new) MAX_TEXT ⊎ RoseAbove (source_given source_old) (source_given source_new) MAX_TEXT
  pub above : source_given source_old + MAX_TEXT < source_given source_new → IsTooLongStop result
  pub faults_are_told : (result ≡ Err stop.ReadFault)
      ⊎ ((faults new ≡ faults old) × (source_faults source_new ≡ source_faults source_old))
  pub faults_never_fall : faults old ≤ faults new
  pub source_faults_never_fall : source_faults source_old ≤ source_faults source_new
  pub documents_stay : documents new ≡ documents old
  pub absent_openings_stay : AbsentStays (Some asked) (documents old) (absent_openings old) (absent_openings new)
  pub none_stays : documents_of asked ≡ [] → new ≡ old
  pub source_waits : SourceWaits (Some asked) (documents old) (source_new ≡ source_old)

-- a command that reads no source is answered from the shelf, or stops
pub record AnswersAlone {F : Type 0} (documents : F → Option Documents) (faults given absent_openings : F → ℕ) (asked : Asked)
    (old new : F) (result : Result Answer Stop) : Type 0 where
  pub output : IfOk result (λ a. WhereTold (Some asked) (documents old) (Some []) (λ d b. OutputOf asked d b (string_bytes a.text) a.status))
  pub written : IfOk result (λ a. IsWritten (Some asked) (string_bytes a.text) a.status)
  pub cause : IfErr result (λ s. WhereTold (Some asked) (documents old) (Some []) (λ d b. OutputOfStop asked d b s))
  pub may_end : IfErr result (λ s. MayEnd (Some asked) (end_of s))
  pub read_fault : result ≡ Err stop.ReadFault → Rose (faults old) (faults new)
  pub too_long : result ≡ Err stop.TooLong → RoseAbove (given old) (given new) MAX_TEXT
  pub faults_are_told : (result ≡ Err stop.ReadFault) ⊎ (faults new ≡ faults old)
  pub faults_never_fall : faults old ≤ faults new
  pub documents_stay : documents new ≡ documents old
  pub absent_openings_stay : AbsentStays (Some asked) (documents old) (absent_openings old) (absent_openings new)
  pub none_stays : documents_of asked ≡ [] → new ≡ old

-- ---- all words

-- words are answered, where a refusal is a line too
pub record AnswersWords {F S : Type 0} (documents : F → Option Documents) (faults given absent_openings : F → ℕ)
    (left : S → Option (List ℕ)) (source_faults source_given : S → ℕ) (asked : Option Asked)
    (old new : F) (source_old source_new : S) (result : Result Answer ReadStop) : Type 0 where
  pub output : IfOk result (λ a. WhereTold asked (documents old) (left source_old) (λ d b. Output asked d b (string_bytes a.text) a.status))
  pub written : IfOk result (λ a. IsWritten asked (string_bytes a.text) a.status)
  pub long_output : result ≡ Err read.TooLong →
      WhereTold asked (documents old) (left source_old) (λ d b. Output asked d b [] status.TooLong)
  pub ends : IfOk result (λ a. IsAnswered a.status → AfterSource asked (IsAtEnd (left source_new)))
  pub may_end : IfErr result (λ s. MayEnd asked (end_of_stop s))
  pub read_fault : result ≡ Err read.ReadFault → Rose (faults old) (faults new) ⊎ Rose (source_faults source_old) (source_faults source_new)
  pub too_long : result ≡ Err read.TooLong →
      RoseAbove (given old) (given new) MAX_TEXT ⊎ RoseAbove (source_given source_old) (source_given source_new) MAX_TEXT
  pub above : source_given source_old + MAX_TEXT < source_given source_new → IsTooLongRead result
  pub faults_are_told : (result ≡ Err read.ReadFault)
      ⊎ ((faults new ≡ faults old) × (source_faults source_new ≡ source_faults source_old))
  pub faults_never_fall : faults old ≤ faults new
  pub source_faults_never_fall : source_faults source_old ≤ source_faults source_new
  pub documents_stay : documents new ≡ documents old
  pub absent_openings_stay : AbsentStays asked (documents old) (absent_openings old) (absent_openings new)
  pub none_stays : named_documents asked ≡ [] → new ≡ old
  pub source_waits : SourceWaits asked (documents old) (source_new ≡ source_old)
