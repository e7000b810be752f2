-- The answer of a command, where a refusal is the line that tells it, and what writing it does.
use Rattle.std.specs.Prelude.{◌≡◌, ◌⊎◌, ◌≤◌, ℕ, List, Option, Result, Ok, Err, MatchResult}
use Rattle.std.specs.String.{string_bytes}
use Rattle.std.specs.Io.KnownBytes.{Appends}
use Rattle.qsr_outside.specs.Counts.{Rose}
use Rattle.qsr_outside.specs.Writing.{AppendsPart}
use Rattle.qsr_outside.specs.declared.reading.ReadStop.{ReadStop}
use Rattle.qsr_outside.specs.declared.reading.ReadStop.TheVariants as read
use Rattle.qsr_inputs.specs.declared.statuses.Status.{Status}
use Rattle.qsr_inputs.specs.declared.statuses.Status.TheVariants.{Refused, WriteFault}
use Rattle.qsr_inputs.specs.declared.stops.Stop.{Stop}
use Rattle.qsr_inputs.specs.declared.stops.Stop.TheVariants as stop
use Rattle.qsr_answers.specs.Texts.{refusal_text}
use Rattle.qsr_answers.specs.declared.answers.Answer.{Answer}
use Rattle.qsr_commands.specs.Ends.{end_of_stop}

abbrev pub IsSpoken : Result Answer Stop → Result Answer ReadStop → Type 0
IsSpoken (Ok answer) result = result ≡ Ok answer
IsSpoken (Err (stop.Refused number place)) result =
    MatchResult result (λ line. (line.status ≡ Refused number place) × (string_bytes line.text ≡ refusal_text number place)) (λ s. s ≡ read.Memory)
IsSpoken (Err stop.TooLong) result = result ≡ Err read.TooLong
IsSpoken (Err stop.ReadFault) result = result ≡ Err read.ReadFault
IsSpoken (Err stop.Memory) result = result ≡ Err read.Memory

-- a text is written whole, and the run ends with its status, or the sink fails
abbrev pub IsWriting : {W : Type 0} → (W → Option (List ℕ)) → (W → ℕ) → List ℕ → Status → W → W → Status → Type 0
IsWriting held faults text status old new result =
    ((result ≡ status) × Appends (held old) (held new) text × (faults new ≡ faults old))
    ⊎ ((result ≡ WriteFault) × AppendsPart (held old) (held new) text × Rose (faults old) (faults new))

-- an answer is written, or the line of a refusal; nothing is written for another stop
pub record Tells {W : Type 0} (held : W → Option (List ℕ)) (faults : W → ℕ) (answer : Result Answer Stop) (old new : W) (result : Status) : Type 0 where
  pub spoken : Result Answer ReadStop
  pub is_spoken : IsSpoken answer spoken
  pub writes : MatchResult spoken (λ a. IsWriting held faults (string_bytes a.text) a.status old new result)
      (λ s. (result ≡ end_of_stop s) × (new ≡ old))
  pub faults_never_fall : faults old ≤ faults new
