-- One text and one status at most are permitted for what words ask for.
use Rattle.std.proofs.Common.{◌≡◌, ℕ, false, List, [], None, Some, Result, Ok, Err, refl, sym, ◌∙◌, ap, subst}
use Rattle.std.proofs.lemmas.Bool.{false≢true}
use Rattle.qsr_outside.specs.Documents.{Documents}
use Rattle.qsr_words.specs.Asked.{Asked, close, solve, intervals, minimal, check, trace, relate, scene, serve, demo}
use Rattle.qsr_inputs.specs.Stops.{Cause, refuses, is_long}
use Rattle.qsr_inputs.specs.Told.{is_served}
use Rattle.qsr_inputs.specs.Given.{Input, InputOf, GivenTo, ReadBy}
use Rattle.qsr_inputs.specs.declared.statuses.Place.{Place}
use Rattle.qsr_inputs.specs.declared.statuses.Status.{Status}
use Rattle.qsr_inputs.specs.declared.statuses.Status.TheVariants.{Done, No, Refused, Budget, NotAccepted, TooLong}
use Rattle.qsr_inputs.proofs.Parts.{same_value, value_or_cause}
use Rattle.qsr_inputs.proofs.InputsOnce.{InputOf-one}
use Rattle.qsr_answers.specs.Texts.{refusal_text}
use Rattle.qsr_answers.proofs.CertificatesOnce.{IsSame, checks_once, traces_once}
use Rattle.qsr_answers.proofs.RelatedOnce.{relates_once}
use Rattle.qsr_answers.proofs.ScenesOnce.{draws_once}
use Rattle.qsr_answers.proofs.AnswersOnce.{closes_once, solves_once, realises_once, demonstrates_once}
use Rattle.qsr_answers.proofs.MinimalAnswers.{labels_once}
use Rattle.qsr_commands.specs.Output.{OutputOf, LongOutput, Works, Makes}
use Rattle.qsr_top.specs.Laws.{OutputIsOne}

-- ---- what a command makes of its input

makes_once : (asked : Asked) (given : GivenTo asked) (read : ReadBy asked) (t u : List ℕ) (s r : Status) →
    is_served (Some asked) ≡ false → Makes asked given read t s → Makes asked given read u r → IsSame t u s r
makes_once (close asked) c net t u s r whole h k = closes_once c net t u s r h k
makes_once (solve asked) given net t u s r whole h k = solves_once given.guided.calculus net asked given.guided.class t u s r h k
makes_once (intervals asked) class net t u s r whole h k = realises_once asked class net t u s r h k
makes_once (minimal asked) guided net t u s r whole h k =
    labels_once asked guided.calculus guided.class net t u s r h k
makes_once (check asked) given net t u s r whole h k = checks_once given.calculus net given.certificate t u s r h k
makes_once (trace asked) given net t u s r whole h k = traces_once given.calculus net given.certificate t u s r h k
makes_once (relate asked) given read t u s r whole h k = record { text = relates_once given t u h.0 k.0; status = h.1 ∙ sym k.1 }
makes_once (scene asked) given read t u s r whole h k =
    record { text = draws_once given t u h.0 k.0; status = h.1 ∙ sym k.1 }
makes_once (serve asked) c script t u s r whole h k = absurd (false≢true (sym whole))
makes_once (demo asked) given read t u s r whole h k = demonstrates_once asked t u s r h k

-- ---- by the three kinds of its output

-- nothing is written where an input is too long
long_only : (asked : Asked) (documents : Documents) (bytes t : List ℕ) → is_served (Some asked) ≡ false →
    LongOutput asked documents bytes t →
    InputOf asked documents bytes (Err is_long) × (t ≡ [])
long_only (serve asked) documents bytes t whole h = absurd (false≢true (sym whole))
long_only _ documents bytes t whole h = h

module _ (asked : Asked) (documents : Documents) (bytes : List ℕ) (whole : is_served (Some asked) ≡ false) where
  record IsRefused (t : List ℕ) (s : Status) : Type 0 where
    number : ℕ
    place : Place
    refused : InputOf asked documents bytes (Err (refuses number place))
    text : t ≡ refusal_text number place
    status : s ≡ Refused number place

  data Kind (t : List ℕ) (s : Status) : Type 0 where
    works : Works asked documents bytes t s → Kind t s
    refused : IsRefused t s → Kind t s
    too_long : InputOf asked documents bytes (Err is_long) → t ≡ [] → s ≡ TooLong → Kind t s

  kind_of : (t : List ℕ) (s : Status) → OutputOf asked documents bytes t s → Kind t s
  kind_of t Done h = works h
  kind_of t No h = works h
  kind_of t Budget h = works h
  kind_of t (NotAccepted number place) h = works h
  kind_of t (Refused number place) h = refused (record { number = number; place = place; refused = h.0; text = h.1; status = refl })
  kind_of t TooLong h = let long = long_only asked documents bytes t whole h in too_long long.0 long.1 refl
  kind_of t _ h = absurd h

  -- the input has one value or one cause
  one : (x y : Result (Input asked) Cause) → InputOf asked documents bytes x → InputOf asked documents bytes y → x ≡ y
  one = InputOf-one asked documents bytes

  works_once : (t u : List ℕ) (s r : Status) → Works asked documents bytes t s → Works asked documents bytes u r →
      IsSame t u s r
  works_once t u s r h k =
      let same : h.value ≡ k.value = same_value h.value k.value (Ok h.value) (Ok k.value) refl refl (one (Ok h.value) (Ok k.value) h.input k.input) in
      makes_once asked k.value.given k.value.read t u s r whole (subst (λ (v : Input asked). Makes asked v.given v.read t s) same h.work) k.work

  works_or_stops : (t : List ℕ) (s : Status) (cause : Cause) → Works asked documents bytes t s →
      InputOf asked documents bytes (Err cause) → ⊥
  works_or_stops t s cause h k = value_or_cause h.value cause _ _ refl refl (one (Ok h.value) (Err cause) h.input k)

  kinds_once : (t u : List ℕ) (s r : Status) → Kind t s → Kind u r → IsSame t u s r
  kinds_once t u s r (works h) (works k) = works_once t u s r h k
  kinds_once t u s r (works h) (refused k) = absurd (works_or_stops t s (refuses k.number k.place) h k.refused)
  kinds_once t u s r (works h) (too_long p x y) = absurd (works_or_stops t s is_long h p)
  kinds_once t u s r (refused h) (works k) = absurd (works_or_stops u r (refuses h.number h.place) k h.refused)
  kinds_once t u s r (refused h) (refused k) =
      let e = one (Err (refuses h.number h.place)) (Err (refuses k.number k.place)) h.refused k.refused in
      let numbers : h.number ≡ k.number = cc in
      let places : h.place ≡ k.place = cc in
      record {
        text = h.text ∙ ap (λ n. refusal_text n h.place) numbers ∙ ap (refusal_text k.number) places ∙ sym k.text;
        status = h.status ∙ ap (λ n. Refused n h.place) numbers ∙ ap (Refused k.number) places ∙ sym k.status;
      }
  kinds_once t u s r (refused h) (too_long p x y) = let e = one (Err (refuses h.number h.place)) (Err is_long) h.refused p in absurd cc
  kinds_once t u s r (too_long p x y) (works k) = absurd (works_or_stops u r is_long k p)
  kinds_once t u s r (too_long p x y) (refused k) = let e = one (Err is_long) (Err (refuses k.number k.place)) p k.refused in absurd cc
  kinds_once t u s r (too_long p x y) (too_long q z w) = record { text = x ∙ sym z; status = y ∙ sym w }

  command_once : (t u : List ℕ) (s r : Status) → OutputOf asked documents bytes t s →
      OutputOf asked documents bytes u r → (t ≡ u) × (s ≡ r)
  command_once t u s r p q = let same = kinds_once t u s r (kind_of t s p) (kind_of u r q) in (same.text, same.status)

-- ---- all words

pub output_once : OutputIsOne
output_once None documents bytes t u s r whole p q = (p.1 ∙ sym q.1, p.0 ∙ sym q.0)
output_once (Some asked) documents bytes t u s r whole p q = command_once asked documents bytes whole t u s r p q
