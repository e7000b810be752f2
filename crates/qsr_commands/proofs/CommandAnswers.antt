-- From what a command is given, what it reads and what it makes of both to its answer.
use Rattle.std.proofs.Common.{◌≡◌, ◌≢◌, ℕ, ◌+◌, ◌<◌, Bool, true, false, cond, List, [], Option, Some, Result, Ok, Err}
use Rattle.std.proofs.Common.{inl, inr, refl, sym, subst, ◌∙◌, arith}
use Rattle.std.specs.Prelude.{IfSome, IfOk, IfErr, OnOk, MatchBool}
use Rattle.std.specs.FinMap as map
use Rattle.std.specs.String.{string_bytes}
use Rattle.std.proofs.lemmas.Bool.{false≢true}
use Rattle.qsr_lex.specs.declared.TheConstants.{MAX_TEXT}
use Rattle.qsr_outside.specs.Documents.{Documents}
use Rattle.qsr_words.specs.Asked.{Asked, CloseAsked, MinimalAsked, CheckAsked, DemoAsked}
use Rattle.qsr_words.specs.Asked.{close, solve, intervals, minimal, check, trace, relate, scene, serve, demo}
use Rattle.split_search.specs.declared.verdict.Verdict.{Verdict}
use Rattle.split_search.specs.declared.verdict.Verdict.TheVariants as verdict
use Rattle.qsr_inputs.specs.Stops.{Cause, HasCause}
use Rattle.qsr_inputs.specs.Inputs.{Claimed}
use Rattle.qsr_inputs.specs.Given.{GivenTo, ReadBy, DocumentsGive, SourceGives}
use Rattle.qsr_inputs.specs.Told.{WhereTold, SourceWaits, StopsBefore, told_where, told_documents, told_source}
use Rattle.qsr_inputs.specs.Told.{documents_of, reads_source, is_served}
use Rattle.qsr_inputs.specs.Readings.{Fetches, Reads}
use Rattle.qsr_inputs.specs.declared.stops.Stop.{Stop}
use Rattle.qsr_inputs.specs.declared.stops.Stop.TheVariants as stop
use Rattle.qsr_inputs.specs.declared.statuses.Place.{Place}
use Rattle.qsr_inputs.specs.declared.statuses.Status.{Status}
use Rattle.qsr_inputs.specs.declared.statuses.Status.TheVariants.{Done, No, Refused, ReadFault, Memory}
use Rattle.qsr_inputs.specs.declared.statuses.Status.TheVariants.{Budget, NotAccepted, TooLong}
use Rattle.qsr_inputs.proofs.Parts.{value_or_cause}
use Rattle.qsr_inputs.proofs.Naming.{IfSome-weaker, told_all, named-told}
use Rattle.qsr_inputs.proofs.Fetching.{not_failed, stop_long}
use Rattle.qsr_inputs.proofs.InputsOnce.{DocumentsGive-one}
use Rattle.qsr_answers.specs.Verdicts.{verdict_status}
use Rattle.qsr_answers.specs.Commands.{IsStatusOf, IsStatusOfLabels, ChecksNetwork, TracesNetwork, IsAnswered}
use Rattle.qsr_answers.specs.Demonstrations.{Demonstrates}
use Rattle.qsr_answers.specs.declared.answers.Answer.{Answer}
use Rattle.qsr_answers.proofs.NeverNo.{demonstrates-not_no}
use Rattle.qsr_commands.specs.Output.{OutputOf, Works, Makes}
use Rattle.qsr_commands.specs.Ends.{MayEnd, IsCloseEnd, IsSolveEnd, IsCheckEnd, IsRelateEnd, IsServeEnd}
use Rattle.qsr_commands.specs.SinkAfter.{IsWritten}
use Rattle.qsr_commands.specs.Answers.{Answers, AnswersAlone, OutputOfStop, end_of}
use Rattle.qsr_commands.proofs.Working.{long_output}

-- ---- what a command makes has a status that answers, and the text that belongs to it

-- the status and the text of an answer of a command
record IsAnswer (asked : Asked) (text : List ℕ) (status : Status) : Type 0 where
  answered : IsAnswered status
  written : IsWritten (Some asked) text status

closes_answer : (a : CloseAsked) (closed : _) (text : List ℕ) (status : Status) → IsStatusOf closed status →
    IsAnswer (close a) text status
closes_answer a closed text Done h = record { answered = tt; written = record { may_end = tt; is_text = tt } }
closes_answer a closed text No h = record { answered = tt; written = record { may_end = tt; is_text = tt } }
closes_answer a closed text _ h = absurd h

-- a command that may end as a search does
searches_answer : (asked : Asked) → ((status : Status) → IsSolveEnd status → MayEnd (Some asked) status) →
    (v : Verdict) (text : List ℕ) → IsAnswer asked text (verdict_status v)
searches_answer asked may (verdict.Yes relations nodes) text =
    record { answered = tt; written = record { may_end = may Done tt; is_text = tt } }
searches_answer asked may (verdict.No nodes) text =
    record { answered = tt; written = record { may_end = may No tt; is_text = tt } }
searches_answer asked may (verdict.Budget nodes) text =
    record { answered = tt; written = record { may_end = may Budget tt; is_text = tt } }

labels_answer : (a : MinimalAsked) (labels : _) (text : List ℕ) (status : Status) →
    IsStatusOfLabels labels status → IsAnswer (minimal a) text status
labels_answer a labels text Done h = record { answered = tt; written = record { may_end = tt; is_text = tt } }
labels_answer a labels text No h = record { answered = tt; written = record { may_end = tt; is_text = tt } }
labels_answer a labels text Budget h = record { answered = tt; written = record { may_end = tt; is_text = tt } }
labels_answer a labels text _ h = absurd h

checks_answer : (a : CheckAsked) (x : Claimed) (net : _) (text : List ℕ) (status : Status) →
    ChecksNetwork x.calculus x.certificate net text status → IsAnswer (check a) text status
checks_answer a x net text Done h = record { answered = tt; written = record { may_end = tt; is_text = tt } }
checks_answer a x net text (NotAccepted number place) h = record { answered = tt; written = record { may_end = tt; is_text = h.judges.1 } }
checks_answer a x net text _ h = absurd h.judges

traces_answer : (a : CheckAsked) (x : Claimed) (net : _) (text : List ℕ) (status : Status) →
    TracesNetwork x.calculus x.certificate net text status → IsAnswer (trace a) text status
traces_answer a x net text Done h = record { answered = tt; written = record { may_end = tt; is_text = tt } }
traces_answer a x net text (NotAccepted number place) h = record { answered = tt; written = record { may_end = tt; is_text = h.traces.1 } }
traces_answer a x net text _ h = absurd h.traces

done_answer : (asked : Asked) (text : List ℕ) → MayEnd (Some asked) Done → IsAnswer asked text Done
done_answer asked text may = record { answered = tt; written = record { may_end = may; is_text = tt } }

demo_answer : (a : DemoAsked) (v : Verdict) (text : List ℕ) → verdict_status v ≢ No →
    IsAnswer (demo a) text (verdict_status v)
demo_answer a (verdict.Yes relations nodes) text never = done_answer (demo a) text tt
demo_answer a (verdict.No nodes) text never = absurd (never refl)
demo_answer a (verdict.Budget nodes) text never =
    record { answered = tt; written = record { may_end = tt; is_text = tt } }

makes_answer : (asked : Asked) (given : GivenTo asked) (read : ReadBy asked) (text : List ℕ) (status : Status) →
    is_served (Some asked) ≡ false → Makes asked given read text status → IsAnswer asked text status
makes_answer (close a) c net text status whole h = closes_answer a h.closed text status h.verdict
makes_answer (solve a) given net text status whole h = subst (IsAnswer (solve a) text) (sym h.status_is)
    (searches_answer (solve a) (λ end is. is) h.verdict text)
makes_answer (intervals a) class net text status whole h = subst (IsAnswer (intervals a) text) (sym h.status_is)
    (searches_answer (intervals a) (λ end is. is) h.verdict text)
makes_answer (minimal a) guided net text status whole h = labels_answer a h.labels text status h.status_is
makes_answer (check a) given net text status whole h = checks_answer a given net text status h
makes_answer (trace a) given net text status whole h = traces_answer a given net text status h
makes_answer (relate a) given read text status whole h =
    subst (IsAnswer (relate a) text) (sym h.1) (done_answer (relate a) text tt)
makes_answer (scene a) given read text status whole h =
    subst (IsAnswer (scene a) text) (sym h.1) (done_answer (scene a) text tt)
makes_answer (serve a) c script text status whole h = absurd (false≢true (sym whole))
makes_answer (demo a) given read text status whole h = subst (IsAnswer (demo a) text) (sym h.status_is)
    (demo_answer a h.verdict text (λ e. demonstrates-not_no a text status h (h.status_is ∙ e)))

works_output : (asked : Asked) (d : Documents) (b text : List ℕ) (status : Status) → IsAnswered status →
    Works asked d b text status → OutputOf asked d b text status
works_output asked d b text Done is h = h
works_output asked d b text No is h = h
works_output asked d b text Budget is h = h
works_output asked d b text (NotAccepted number place) is h = h
works_output asked d b text _ is h = absurd is

-- ---- stops

-- what holds of each end of a stop
each_end : (P : Status → Type 0) (s : Stop) → ((number : ℕ) (place : Place) → P (Refused number place)) → P TooLong →
    P ReadFault → P Memory → P (end_of s)
each_end P (stop.Refused number place) refused long fault memory = refused number place
each_end P stop.TooLong refused long fault memory = long
each_end P stop.ReadFault refused long fault memory = fault
each_end P stop.Memory refused long fault memory = memory

-- a command that has an input may end by a stop
may_stop : (asked : Asked) (s : Stop) → (documents_of asked ≡ [] → reads_source asked ≡ true) →
    MayEnd (Some asked) (end_of s)
may_stop (close a) s has = each_end IsCloseEnd s (λ number place. tt) tt tt tt
may_stop (solve a) s has = each_end IsSolveEnd s (λ number place. tt) tt tt tt
may_stop (intervals a) s has = each_end IsSolveEnd s (λ number place. tt) tt tt tt
may_stop (minimal a) s has = each_end IsSolveEnd s (λ number place. tt) tt tt tt
may_stop (serve a) s has = each_end IsServeEnd s (λ number place. tt) tt tt tt
may_stop (relate a) s has = each_end IsRelateEnd s (λ number place. tt) tt tt tt
may_stop (scene a) s has = each_end IsRelateEnd s (λ number place. tt) tt tt tt
may_stop (demo a) s has = absurd (false≢true (has refl))
may_stop _ s has = each_end IsCheckEnd s (λ number place. tt) tt tt tt

pub memory_may_end : (asked : Asked) → MayEnd (Some asked) (end_of stop.Memory)
memory_may_end (demo a) = tt
memory_may_end _ = tt

-- a cause of what the documents give is one of the input; and one of what the source gives after them
given_stops : (asked : Asked) (d : Documents) (b : List ℕ) (s : Stop) → HasCause (DocumentsGive asked d) s →
    OutputOfStop asked d b s
given_stops asked d b (stop.Refused number place) h = (inl h, refl)
given_stops asked d b stop.TooLong h = long_output asked d b (inl h)
given_stops asked d b stop.ReadFault h = tt
given_stops asked d b stop.Memory h = tt

read_stops : (asked : Asked) (d : Documents) (b : List ℕ) (given : GivenTo asked) (s : Stop) →
    DocumentsGive asked d (Ok given) → HasCause (SourceGives asked b given) s → OutputOfStop asked d b s
read_stops asked d b given (stop.Refused number place) g h = (inr (record { value = given; first = g; second = inl h }), refl)
read_stops asked d b given stop.TooLong g h = long_output asked d b (inr (record { value = given; first = g; second = inl h }))
read_stops asked d b given stop.ReadFault g h = tt
read_stops asked d b given stop.Memory g h = tt

-- ---- what is told

-- the source is told, where the command reads it
source_told : (b : Bool) (left : Option (List ℕ)) (P : List ℕ → Type 0) → IfSome left P → b ≡ true →
    IfSome (cond b left (Some [])) P
source_told true left P h e = h
source_told false left P h e = absurd (false≢true e)

-- and where it doesn't, what is left of it says nothing
no_source_told : (b : Bool) (P : List ℕ → Type 0) → P [] → IfSome (cond b (Some []) (Some [])) P
no_source_told true P h = h
no_source_told false P h = h

no_source_same : (b : Bool) (left : Option (List ℕ)) → b ≡ false → cond b (Some []) (Some []) ≡ cond b left (Some [])
no_source_same true left e = absurd (false≢true (sym e))
no_source_same false left e = refl

-- the source is as it was, whatever stops the command
pub waits_same : {S : Type 0} (asked : Asked) (told : Option Documents) (s : S) → SourceWaits (Some asked) told (s ≡ s)
waits_same asked told s = either (reads_source asked) (told_documents (Some asked) told) (λ d. (c : Cause) → StopsBefore asked d c → s ≡ s) (s ≡ s) (λ d c i. refl) refl
  where
    either : (b : Bool) (o : Option Documents) (P : Documents → Type 0) (Q : Type 0) → ((d : Documents) → P d) → Q →
        MatchBool b (IfSome o P) Q
    either true o P Q f q = told_all o P f
    either false o P Q f q = q

waits_reading : (b : Bool) (P Q : Type 0) → P → b ≡ true → MatchBool b P Q
waits_reading true P Q p e = p
waits_reading false P Q p e = absurd (false≢true e)

-- ---- the answer

module _ {F S : Type 0} (documents : F → Option Documents) (faults given absent : F → ℕ) (left : S → Option (List ℕ)) (source_faults source_given : S → ℕ) (asked : Asked) where
  abbrev AnswersFrom : F → F → S → S → Result Answer Stop → Type 0
  AnswersFrom old new s t r = Answers documents faults given absent left source_faults source_given asked old new s t r

  abbrev FetchesGiven : F → F → Result (GivenTo asked) Stop → Type 0
  FetchesGiven old new r = Fetches documents faults given absent (documents_of asked) (DocumentsGive asked) old new r

  -- what is fetched is told
  given_told : (old new : F) (g : GivenTo asked) → FetchesGiven old new (Ok g) →
      IfSome (told_where (documents_of asked) (documents old)) (λ d. DocumentsGive asked d (Ok g))
  given_told old new g h = named-told (documents_of asked) (documents old) (λ d. DocumentsGive asked d (Ok g)) h.value

  -- the command reads its source
  module _ (reads : reads_source asked ≡ true) where
    -- the documents stop the command
    pub given_stopped : (old new : F) (s : S) (k : Stop) → FetchesGiven old new (Err k) →
        AnswersFrom old new s s (Err k)
    given_stopped old new s k h = record {
      output = tt;
      written = tt;
      cause = IfSome-weaker (told_where (documents_of asked) (documents old)) _ _ (λ d i. told_all _ _ (λ b. given_stops asked d b k i)) (named-told (documents_of asked) (documents old) _ h.cause);
      may_end = may_stop asked k (λ none. reads);
      ends = tt;
      read_fault = λ e. inl (h.read_fault cc);
      too_long = λ e. inl (h.too_long cc);
      above = λ more. absurd (omega (arith, more));
      faults_are_told = elim h.faults_are_told [ inl e ↦ inl cc | inr same ↦ inr (same, refl) ];
      faults_never_fall = h.faults_never_fall;
      source_faults_never_fall = omega arith;
      documents_stay = h.documents_stay;
      absent_openings_stay = λ there. h.absent_openings_stay there;
      none_stays = h.none_stays;
      source_waits = waits_same asked (documents old) s;
    }

    module _ (old new : F) (s t : S) (g : GivenTo asked) (h : FetchesGiven old new (Ok g)) where
      abbrev ReadsIt : Result (ReadBy asked) Stop → Type 0
      ReadsIt r = Reads left source_faults source_given (λ b. SourceGives asked b g) s t r

      same_faults : faults new ≡ faults old
      same_faults = not_failed g _ h.faults_are_told

      -- the documents don't stop it
      waits : SourceWaits (Some asked) (documents old) (t ≡ s)
      waits = waits_reading (reads_source asked) _ _ (IfSome-weaker (told_where (documents_of asked) (documents old)) _ _ (λ d i c j.
          absurd (value_or_cause g c (Ok g) (Err c) refl refl (DocumentsGive-one asked d (Ok g) (Err c) i j))) (given_told old new g h)) reads

      both_told : (P : List ℕ → Type 0) (Q : Documents → List ℕ → Type 0) →
          ((d : Documents) (b : List ℕ) → DocumentsGive asked d (Ok g) → P b → Q d b) → IfSome (left s) P →
          WhereTold (Some asked) (documents old) (left s) Q
      both_told P Q f k = IfSome-weaker (told_where (documents_of asked) (documents old)) _ _ (λ d i.
          source_told (reads_source asked) (left s) (Q d) (IfSome-weaker (left s) P (Q d) (λ b j. f d b i j) k) reads) (given_told old new g h)

      pub read_stopped : (k : Stop) → ReadsIt (Err k) → AnswersFrom old new s t (Err k)
      read_stopped k r = record {
        output = tt;
        written = tt;
        cause = both_told _ _ (λ d b i j. read_stops asked d b g k i j) r.cause;
        may_end = may_stop asked k (λ none. reads);
        ends = tt;
        read_fault = λ e. inr (r.read_fault cc);
        too_long = λ e. inr (r.too_long cc);
        above = λ more. stop_long (ReadBy asked) Answer k (r.above more);
        faults_are_told = elim r.faults_are_told [ inl e ↦ inl cc | inr same ↦ inr (same_faults, same) ];
        faults_never_fall = h.faults_never_fall;
        source_faults_never_fall = r.faults_never_fall;
        documents_stay = h.documents_stay;
        absent_openings_stay = λ there. h.absent_openings_stay there;
        none_stays = h.none_stays;
        source_waits = waits;
      }

      module _ (read : ReadBy asked) (r : ReadsIt (Ok read)) where
        never_above : source_given s + MAX_TEXT < source_given t → ⊥
        never_above more = r.above more

        same_source_faults : source_faults t ≡ source_faults s
        same_source_faults = not_failed read _ r.faults_are_told

        pub read_answered : is_served (Some asked) ≡ false → (x : Answer) →
            Makes asked g read (string_bytes x.text) x.status → AnswersFrom old new s t (Ok x)
        read_answered whole x work =
            let is : IsAnswer asked (string_bytes x.text) x.status = makes_answer asked g read (string_bytes x.text) x.status whole work in
            record {
              output = both_told _ _ (λ d b i j. works_output asked d b (string_bytes x.text) x.status is.answered (record {
                value = record { given = g; read = read };
                input = record { value = g; first = i; second = record { value = read; first = j; second = refl } };
                work = work;
              })) r.value;
              written = is.written;
              cause = tt;
              may_end = tt;
              ends = λ e. r.ends;
              read_fault = λ e. absurd cc;
              too_long = λ e. absurd cc;
              above = λ more. absurd (never_above more);
              faults_are_told = inr (same_faults, same_source_faults);
              faults_never_fall = h.faults_never_fall;
              source_faults_never_fall = r.faults_never_fall;
              documents_stay = h.documents_stay;
              absent_openings_stay = λ there. h.absent_openings_stay there;
              none_stays = h.none_stays;
              source_waits = waits;
            }

        pub read_memory : AnswersFrom old new s t (Err stop.Memory)
        read_memory = record {
          output = tt;
          written = tt;
          cause = told_all (told_documents (Some asked) (documents old)) _ (λ d. told_all (told_source (Some asked) (left s)) (λ b. OutputOfStop asked d b stop.Memory) (λ b. tt));
          may_end = memory_may_end asked;
          ends = tt;
          read_fault = λ e. absurd cc;
          too_long = λ e. absurd cc;
          above = λ more. tt;
          faults_are_told = inr (same_faults, same_source_faults);
          faults_never_fall = h.faults_never_fall;
          source_faults_never_fall = r.faults_never_fall;
          documents_stay = h.documents_stay;
          absent_openings_stay = λ there. h.absent_openings_stay there;
          none_stays = h.none_stays;
          source_waits = waits;
        }

-- ---- a command that reads no source

module _ {F : Type 0} (documents : F → Option Documents) (faults given absent : F → ℕ) (asked : Asked)
    (old new : F) where
  abbrev AnswersFromShelf : Result Answer Stop → Type 0
  AnswersFromShelf r = AnswersAlone documents faults given absent asked old new r

  abbrev FetchesFromShelf : Result (GivenTo asked) Stop → Type 0
  FetchesFromShelf r = Fetches documents faults given absent (documents_of asked) (DocumentsGive asked) old new r

  -- what is fetched is told, and nothing more
  shelf_told : (P : Documents → Type 0) (Q : Documents → List ℕ → Type 0) → ((d : Documents) → P d → Q d []) →
      IfSome (told_where (documents_of asked) (documents old)) P →
      WhereTold (Some asked) (documents old) (Some []) Q
  shelf_told P Q f = IfSome-weaker (told_where (documents_of asked) (documents old)) _ _ (λ d i.
      no_source_told (reads_source asked) (Q d) (f d i))

  -- the documents stop it
  pub alone_stopped : (documents_of asked ≡ [] → reads_source asked ≡ true) → (k : Stop) → FetchesFromShelf (Err k) →
      AnswersFromShelf (Err k)
  alone_stopped has k h = record {
    output = tt;
    written = tt;
    cause = shelf_told _ _ (λ d i. given_stops asked d [] k i)
        (named-told (documents_of asked) (documents old) _ h.cause);
    may_end = may_stop asked k has;
    read_fault = λ e. h.read_fault cc;
    too_long = λ e. h.too_long cc;
    faults_are_told = elim h.faults_are_told [ inl e ↦ inl cc | inr same ↦ inr same ];
    faults_never_fall = h.faults_never_fall;
    documents_stay = h.documents_stay;
    absent_openings_stay = λ there. h.absent_openings_stay there;
    none_stays = h.none_stays;
  }

  module _ (g : GivenTo asked) (h : FetchesFromShelf (Ok g)) where
    pub alone_answered : (read : ReadBy asked) → SourceGives asked [] g (Ok read) → is_served (Some asked) ≡ false →
        (x : Answer) → Makes asked g read (string_bytes x.text) x.status → AnswersFromShelf (Ok x)
    alone_answered read nothing whole x work =
        let text : List ℕ = string_bytes x.text in
        let is : IsAnswer asked text x.status = makes_answer asked g read text x.status whole work in
        record {
          output = shelf_told _ _ (λ d i. works_output asked d [] text x.status is.answered (record {
            value = record { given = g; read = read };
            input = record { value = g; first = i; second = record { value = read; first = nothing; second = refl } };
            work = work;
          })) (named-told (documents_of asked) (documents old) (λ d. DocumentsGive asked d (Ok g)) h.value);
          written = is.written;
          cause = tt;
          may_end = tt;
          read_fault = λ e. absurd cc;
          too_long = λ e. absurd cc;
          faults_are_told = inr (not_failed g _ h.faults_are_told);
          faults_never_fall = h.faults_never_fall;
          documents_stay = h.documents_stay;
          absent_openings_stay = λ there. h.absent_openings_stay there;
          none_stays = h.none_stays;
        }

    pub alone_memory : AnswersFromShelf (Err stop.Memory)
    alone_memory = record {
      output = tt;
      written = tt;
      cause = told_all (told_documents (Some asked) (documents old)) _ (λ d.
          told_all (told_source (Some asked) (Some [])) (λ b. OutputOfStop asked d b stop.Memory) (λ b. tt));
      may_end = memory_may_end asked;
      read_fault = λ e. absurd cc;
      too_long = λ e. absurd cc;
      faults_are_told = inr (not_failed g _ h.faults_are_told);
      faults_never_fall = h.faults_never_fall;
      documents_stay = h.documents_stay;
      absent_openings_stay = λ there. h.absent_openings_stay there;
      none_stays = h.none_stays;
    }

module _ {F S : Type 0} (documents : F → Option Documents) (faults given absent : F → ℕ) (left : S → Option (List ℕ))
    (source_faults source_given : S → ℕ) where
  -- and then its answer is the same over any source
  module _ (asked : Asked) (alone : reads_source asked ≡ false) (old new : F) (s : S) where
    -- what is told of no source is told of any
    source_aside : (P : Documents → List ℕ → Type 0) → WhereTold (Some asked) (documents old) (Some []) P →
        WhereTold (Some asked) (documents old) (left s) P
    source_aside P = subst (λ t. IfSome (told_documents (Some asked) (documents old)) (λ d. IfSome t (P d)))
        (no_source_same (reads_source asked) (left s) alone)

    answer_aside : (P : Answer → Documents → List ℕ → Type 0) (r : Result Answer Stop) →
        IfOk r (λ a. WhereTold (Some asked) (documents old) (Some []) (P a)) →
        IfOk r (λ a. WhereTold (Some asked) (documents old) (left s) (P a))
    answer_aside P (Ok x) h = source_aside (P x) h
    answer_aside P (Err k) h = tt

    stop_aside : (P : Stop → Documents → List ℕ → Type 0) (r : Result Answer Stop) →
        IfErr r (λ k. WhereTold (Some asked) (documents old) (Some []) (P k)) →
        IfErr r (λ k. WhereTold (Some asked) (documents old) (left s) (P k))
    stop_aside P (Ok x) h = tt
    stop_aside P (Err k) h = source_aside (P k) h

    ends_aside : (P : Type 0) (r : Result Answer Stop) → OnOk r (reads_source asked ≡ true → P)
    ends_aside P (Ok x) = λ e. absurd (false≢true (sym alone ∙ e))
    ends_aside P (Err k) = tt

    pub answers_alone : (r : Result Answer Stop) → AnswersAlone documents faults given absent asked old new r →
        Answers documents faults given absent left source_faults source_given asked old new s s r
    answers_alone r h = record {
      output = answer_aside _ r h.output;
      written = h.written;
      cause = stop_aside _ r h.cause;
      may_end = h.may_end;
      ends = ends_aside _ r;
      read_fault = λ e. inl (h.read_fault e);
      too_long = λ e. inl (h.too_long e);
      above = λ more. absurd (omega (arith, more));
      faults_are_told = elim h.faults_are_told [ inl e ↦ inl e | inr same ↦ inr (same, refl) ];
      faults_never_fall = h.faults_never_fall;
      source_faults_never_fall = omega arith;
      documents_stay = h.documents_stay;
      absent_openings_stay = h.absent_openings_stay;
      none_stays = h.none_stays;
      source_waits = waits_same asked (documents old) s;
    }

  module _ (a : DemoAsked) (old : F) (s : S) where
    abbrev DemoFrom : Result Answer Stop → Type 0
    DemoFrom r = Answers documents faults given absent left source_faults source_given (demo a) old old s s r

    demo_answered : (x : Answer) → Demonstrates a (string_bytes x.text) x.status → DemoFrom (Ok x)
    demo_answered x work =
        let is : IsAnswer (demo a) (string_bytes x.text) x.status = makes_answer (demo a) tt tt (string_bytes x.text) x.status refl work in
        record {
          output = works_output (demo a) map.empty [] (string_bytes x.text) x.status is.answered (record {
            value = record { given = tt; read = tt };
            input = record { value = tt; first = refl; second = record { value = tt; first = refl; second = refl } };
            work = work;
          });
          written = is.written;
          cause = tt;
          may_end = tt;
          ends = λ e. absurd (false≢true e);
          read_fault = λ e. absurd cc;
          too_long = λ e. absurd cc;
          above = λ more. absurd (omega (arith, more));
          faults_are_told = inr (refl, refl);
          faults_never_fall = omega arith;
          source_faults_never_fall = omega arith;
          documents_stay = refl;
          absent_openings_stay = λ there. refl;
          none_stays = λ none. refl;
          source_waits = refl;
        }

    demo_memory : DemoFrom (Err stop.Memory)
    demo_memory = record {
      output = tt;
      written = tt;
      cause = tt;
      may_end = tt;
      ends = tt;
      read_fault = λ e. absurd cc;
      too_long = λ e. absurd cc;
      above = λ more. absurd (omega (arith, more));
      faults_are_told = inr (refl, refl);
      faults_never_fall = omega arith;
      source_faults_never_fall = omega arith;
      documents_stay = refl;
      absent_openings_stay = λ there. refl;
      none_stays = λ none. refl;
      source_waits = refl;
    }

    -- a demonstration reads nothing, and only memory stops it
    pub demo_answers : (r : Result Answer Stop) → IfOk r (λ x. Demonstrates a (string_bytes x.text) x.status) →
        IfErr r (λ k. k ≡ stop.Memory) → DemoFrom r
    demo_answers (Ok x) work is = demo_answered x work
    demo_answers (Err k) work is = subst (λ j. DemoFrom (Err j)) (sym is) demo_memory
