-- What a run promises, as a record over the meanings of the shelf, the source and the sink.
use Rattle.std.specs.Prelude.{◌≡◌, ◌⊎◌, ◌+◌, ◌<◌, ◌≤◌, ℕ, List, [], Option, None}
use Rattle.std.specs.Io.KnownBytes.{IsAtEnd}
use Rattle.qsr_lex.specs.declared.TheConstants.{MAX_TEXT}
use Rattle.qsr_outside.specs.Counts.{Rose, RoseAbove}
use Rattle.qsr_outside.specs.Documents.{Documents}
use Rattle.qsr_outside.specs.Writing.{AppendsPart}
use Rattle.qsr_words.specs.Asked.{Asked}
use Rattle.qsr_inputs.specs.Told.{WhereTold, SourceWaits, AbsentStays, AfterSource, named_documents}
use Rattle.qsr_inputs.specs.declared.statuses.Status.{Status}
use Rattle.qsr_inputs.specs.declared.statuses.Status.TheVariants.{ReadFault, WriteFault, TooLong}
use Rattle.qsr_answers.specs.Texts.{usage_text}
use Rattle.qsr_answers.specs.Commands.{IsAnswered}
use Rattle.qsr_commands.specs.Ends.{MayEnd, IsLongEnd}
use Rattle.qsr_commands.specs.SinkAfter.{LeavesInSink, LeavesByStatus}

-- a run whose words ask for this
pub record Runs {F S W : Type 0} (documents : F → Option Documents) (faults given absent_openings : F → ℕ)
    (left : S → Option (List ℕ)) (source_faults source_given : S → ℕ) (held : W → Option (List ℕ)) (sink_faults : W → ℕ)
    (asked : Option Asked) (old new : F) (source_old source_new : S) (sink_old sink_new : W) (result : Status) : Type 0 where
  pub output : WhereTold asked (documents old) (left source_old) (λ shelf bytes.
      LeavesInSink asked shelf bytes (left source_new) (held sink_old) (held sink_new) result)
  pub by_status : LeavesByStatus asked (held sink_old) (held sink_new) result
  pub usage_part : asked ≡ None → result ≡ WriteFault → AppendsPart (held sink_old) (held sink_new) usage_text
  pub status : MayEnd asked result
  pub read_fault : result ≡ ReadFault → Rose (faults old) (faults new) ⊎ Rose (source_faults source_old) (source_faults source_new)
  pub write_fault : result ≡ WriteFault → Rose (sink_faults sink_old) (sink_faults sink_new)
  pub read_faults_are_told : (result ≡ ReadFault)
      ⊎ ((faults new ≡ faults old) × (source_faults source_new ≡ source_faults source_old))
  pub write_faults_are_told : (result ≡ WriteFault) ⊎ (sink_faults sink_new ≡ sink_faults sink_old)
  pub too_long : result ≡ TooLong →
      RoseAbove (given old) (given new) MAX_TEXT ⊎ RoseAbove (source_given source_old) (source_given source_new) MAX_TEXT
  pub above : source_given source_old + MAX_TEXT < source_given source_new → IsLongEnd result asked
  pub source_waits : SourceWaits asked (documents old) (source_new ≡ source_old)
  pub shelf_stays : named_documents asked ≡ [] → new ≡ old
  pub ends : IsAnswered result → AfterSource asked (IsAtEnd (left source_new))
  pub documents_stay : documents new ≡ documents old
  pub absent_openings_stay : AbsentStays asked (documents old) (absent_openings old) (absent_openings new)
  pub shelf_faults : faults old ≤ faults new
  pub faults_of_source : source_faults source_old ≤ source_faults source_new
  pub faults_of_sink : sink_faults sink_old ≤ sink_faults sink_new
