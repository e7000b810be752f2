-- From the answer of a command to what a run leaves in its sink.
use Rattle.std.proofs.Common.{◌≡◌, ◌≤◌, ℕ, false, List, [], Option, None, Some, Result, Ok, Err, refl, sym, ap, subst, inl, inr, arith}
use Rattle.std.specs.String.{string_bytes}
use Rattle.std.specs.Prelude.{MatchResult}
use Rattle.std.specs.Io.KnownBytes.{Appends, Keeps}
use Rattle.std.proofs.KnownBytes.{Appends-nil, Keeps-refl}
use Rattle.std.proofs.lemmas.Bool.{false≢true}
use Rattle.qsr_outside.specs.Documents.{Documents}
use Rattle.qsr_outside.specs.Reading.{IsTooLongOrMemory as IsTooLongRead}
use Rattle.qsr_outside.specs.Counts.{Rose}
use Rattle.qsr_outside.specs.Writing.{AppendsPart}
use Rattle.qsr_outside.specs.declared.reading.ReadStop.{ReadStop}
use Rattle.qsr_outside.specs.declared.reading.ReadStop.TheVariants as read
use Rattle.qsr_words.specs.Asked.{Asked, serve, demo}
use Rattle.qsr_inputs.specs.Stops.{IsTooLongStop}
use Rattle.qsr_inputs.specs.Told.{WhereTold, SourceWaits, told_documents, told_source, reads_source, is_served}
use Rattle.qsr_inputs.specs.declared.stops.Stop.{Stop}
use Rattle.qsr_inputs.specs.declared.stops.Stop.TheVariants as stop
use Rattle.qsr_inputs.specs.declared.statuses.Place.{Place}
use Rattle.qsr_inputs.specs.declared.statuses.Status.{Status}
use Rattle.qsr_inputs.specs.declared.statuses.Status.TheVariants.{Done, No, Usage, Refused, ReadFault, WriteFault, Memory, Budget, NotAccepted, TooLong}
use Rattle.qsr_inputs.proofs.Naming.{IfSome-weaker, told_all}
use Rattle.qsr_answers.specs.Texts.{usage_text}
use Rattle.qsr_answers.specs.Commands.{IsAnswered}
use Rattle.qsr_answers.specs.declared.answers.Answer.{Answer}
use Rattle.qsr_commands.specs.Output.{Output}
use Rattle.qsr_commands.specs.Ends.{MayEnd, IsUsageEnd, IsLongEnd, end_of_stop}
use Rattle.qsr_commands.specs.SinkAfter.{LeavesInSink, LeavesByStatus, LeavesAtReadFault, LeavesAtWriteFault, LeavesOutOfMemory, WritesPart, IsWritten, IsTextOf}
use Rattle.qsr_commands.specs.Answers.{Answers, AnswersAlone, AnswersWords, OutputOfStop}
use Rattle.qsr_commands.specs.Spoken.{IsSpoken, IsWriting, Tells}
use Rattle.qsr_commands.specs.Runs.{Runs}
use Rattle.qsr_commands.proofs.CommandAnswers.{waits_same, memory_may_end, answers_alone}

-- ---- what is told

pub WhereTold-weaker : (asked : Option Asked) (documents : Option Documents) (left : Option (List ℕ)) (P Q : Documents → List ℕ → Type 0) → ((d : Documents) (b : List ℕ) → P d b → Q d b) →
    WhereTold asked documents left P → WhereTold asked documents left Q
WhereTold-weaker asked documents left P Q f h =
    IfSome-weaker (told_documents asked documents) _ _ (λ d i. IfSome-weaker (told_source asked left) (P d) (Q d) (f d) i) h

pub WhereTold-always : (asked : Option Asked) (documents : Option Documents) (left : Option (List ℕ)) (P : Documents → List ℕ → Type 0) → ((d : Documents) (b : List ℕ) → P d b) →
    WhereTold asked documents left P
WhereTold-always asked documents left P f = told_all (told_documents asked documents) _ (λ d. told_all (told_source asked left) (P d) (f d))

-- ---- a refusal is a line

module _ {F S : Type 0} (documents : F → Option Documents) (faults given absent : F → ℕ) (left : S → Option (List ℕ)) (source_faults source_given : S → ℕ)
    (old new : F) (s t : S) where
  abbrev AnswersThem : Option Asked → Result Answer ReadStop → Type 0
  AnswersThem asked r = AnswersWords documents faults given absent left source_faults source_given asked old new s t r

  module _ (asked : Asked) where
    abbrev AnswersIt : Result Answer Stop → Type 0
    AnswersIt r = Answers documents faults given absent left source_faults source_given asked old new s t r

    -- an answer
    spoken_ok : (x : Answer) → AnswersIt (Ok x) → AnswersThem (Some asked) (Ok x)
    spoken_ok x h = record {
      output = h.output;
      written = h.written;
      long_output = λ e. absurd cc;
      ends = λ is. h.ends;
      may_end = tt;
      read_fault = λ e. absurd cc;
      too_long = λ e. absurd cc;
      above = λ more. absurd (h.above more);
      faults_are_told = elim h.faults_are_told [ inl e ↦ absurd cc | inr same ↦ inr same ];
      faults_never_fall = h.faults_never_fall;
      source_faults_never_fall = h.source_faults_never_fall;
      documents_stay = h.documents_stay;
      absent_openings_stay = h.absent_openings_stay;
      none_stays = h.none_stays;
      source_waits = h.source_waits;
    }

    -- the line of a refusal
    spoken_line : (number : ℕ) (place : Place) (x : Answer) → IsSpoken (Err (stop.Refused number place)) (Ok x) →
        AnswersIt (Err (stop.Refused number place)) → AnswersThem (Some asked) (Ok x)
    spoken_line number place x spoken h = record {
      output = WhereTold-weaker (Some asked) (documents old) (left s) _ _ (λ d b o.
          subst (λ r. Output (Some asked) d b (string_bytes x.text) r) (sym spoken.0) (subst (λ l. Output (Some asked) d b l (Refused number place)) (sym spoken.1) o)) h.cause;
      written = subst (λ r. IsWritten (Some asked) (string_bytes x.text) r) (sym spoken.0) (record { may_end = h.may_end; is_text = spoken.1 });
      long_output = λ e. absurd cc;
      ends = λ is. absurd (subst IsAnswered spoken.0 is);
      may_end = tt;
      read_fault = λ e. absurd cc;
      too_long = λ e. absurd cc;
      above = λ more. absurd (h.above more);
      faults_are_told = elim h.faults_are_told [ inl e ↦ absurd cc | inr same ↦ inr same ];
      faults_never_fall = h.faults_never_fall;
      source_faults_never_fall = h.source_faults_never_fall;
      documents_stay = h.documents_stay;
      absent_openings_stay = h.absent_openings_stay;
      none_stays = h.none_stays;
      source_waits = h.source_waits;
    }

    -- a stop that is no line
    module _ (k : Stop) (e : ReadStop) (h : AnswersIt (Err k)) where
      unspoken : MayEnd (Some asked) (end_of_stop e) → (e ≡ read.TooLong → k ≡ stop.TooLong) →
          (e ≡ read.ReadFault → k ≡ stop.ReadFault) → (k ≡ stop.ReadFault → e ≡ read.ReadFault) →
          (IsTooLongStop {A = Answer} (Err k) → IsTooLongRead {T = Answer} (Err e)) → AnswersThem (Some asked) (Err e)
      unspoken may long reads told above = record {
        output = tt;
        written = tt;
        long_output = λ i. subst (λ x. WhereTold (Some asked) (documents old) (left s) (λ d b. OutputOfStop asked d b x)) (long cc) h.cause;
        ends = tt;
        may_end = may;
        read_fault = λ i. h.read_fault (ap Err (reads cc));
        too_long = λ i. h.too_long (ap Err (long cc));
        above = λ more. above (h.above more);
        faults_are_told = elim h.faults_are_told [ inl i ↦ inl (ap Err (told cc)) | inr same ↦ inr same ];
        faults_never_fall = h.faults_never_fall;
        source_faults_never_fall = h.source_faults_never_fall;
        documents_stay = h.documents_stay;
        absent_openings_stay = h.absent_openings_stay;
        none_stays = h.none_stays;
        source_waits = h.source_waits;
      }

    -- where memory runs out before the line of a refusal is made
    no_line : (number : ℕ) (place : Place) (e : ReadStop) → e ≡ read.Memory →
        AnswersIt (Err (stop.Refused number place)) → AnswersThem (Some asked) (Err e)
    no_line number place e is h = subst (λ x. AnswersThem (Some asked) (Err x)) (sym is)
        (unspoken (stop.Refused number place) read.Memory h (memory_may_end asked) (λ i. absurd cc) (λ i. absurd cc) (λ i. absurd cc) (λ i. absurd i))

    pub spoken : (r : Result Answer Stop) (x : Result Answer ReadStop) → IsSpoken r x → AnswersIt r →
        AnswersThem (Some asked) x
    spoken (Ok x) r is h = subst (AnswersThem (Some asked)) (sym is) (spoken_ok x h)
    spoken (Err (stop.Refused number place)) (Ok x) is h = spoken_line number place x is h
    spoken (Err (stop.Refused number place)) (Err e) is h = no_line number place e is h
    spoken (Err stop.TooLong) r is h = subst (AnswersThem (Some asked)) (sym is)
        (unspoken stop.TooLong read.TooLong h h.may_end (λ i. refl) (λ i. absurd cc) (λ i. absurd cc) (λ i. tt))
    spoken (Err stop.ReadFault) r is h = subst (AnswersThem (Some asked)) (sym is)
        (unspoken stop.ReadFault read.ReadFault h h.may_end (λ i. absurd cc) (λ i. refl) (λ i. refl) (λ i. i))
    spoken (Err stop.Memory) r is h = subst (AnswersThem (Some asked)) (sym is)
        (unspoken stop.Memory read.Memory h h.may_end (λ i. absurd cc) (λ i. absurd cc) (λ i. absurd cc) (λ i. tt))

-- nothing was read
module _ {F S : Type 0} (documents : F → Option Documents) (faults given absent : F → ℕ) (left : S → Option (List ℕ)) (source_faults source_given : S → ℕ)
    (old : F) (s : S) where
  waits_always : (asked : Option Asked) → SourceWaits asked (documents old) (s ≡ s)
  waits_always None = refl
  waits_always (Some asked) = waits_same asked (documents old) s

  memory_end : (asked : Option Asked) → MayEnd asked Memory
  memory_end None = tt
  memory_end (Some asked) = memory_may_end asked

  -- since memory ran out
  pub memory_answers : (asked : Option Asked) →
      AnswersWords documents faults given absent left source_faults source_given asked old old s s (Err read.Memory)
  memory_answers asked = record {
    output = tt;
    written = tt;
    long_output = λ e. absurd cc;
    ends = tt;
    may_end = memory_end asked;
    read_fault = λ e. absurd cc;
    too_long = λ e. absurd cc;
    above = λ more. tt;
    faults_are_told = inr (refl, refl);
    faults_never_fall = omega arith;
    source_faults_never_fall = omega arith;
    documents_stay = refl;
    absent_openings_stay = λ there. refl;
    none_stays = λ none. refl;
    source_waits = waits_always asked;
  }

  usage_ends : (status : Status) → status ≡ Usage → IsAnswered status → ⊥
  usage_ends status e is = absurd (subst IsAnswered e is)

  -- since the words ask for nothing
  pub usage_answers : (asked : Option Asked) (x : Answer) → None ≡ asked → x.status ≡ Usage →
      string_bytes x.text ≡ usage_text →
      AnswersWords documents faults given absent left source_faults source_given asked old old s s (Ok x)
  usage_answers asked x none status text = subst (λ k. AnswersWords documents faults given absent left source_faults source_given k old old s s (Ok x)) none (record {
    output = (status, text);
    written = subst (IsWritten None (string_bytes x.text)) (sym status) (record { may_end = tt; is_text = text });
    long_output = λ e. absurd cc;
    ends = λ is. tt;
    may_end = tt;
    read_fault = λ e. absurd cc;
    too_long = λ e. absurd cc;
    above = λ more. absurd (omega (arith, more));
    faults_are_told = inr (refl, refl);
    faults_never_fall = omega arith;
    source_faults_never_fall = omega arith;
    documents_stay = refl;
    absent_openings_stay = λ there. refl;
    none_stays = λ none. refl;
    source_waits = refl;
  })

-- ---- writing

-- nothing is written, and a part, by a command that writes its answer whole
unserved_fault : (asked : Option Asked) (d : Documents) (b : List ℕ) (left old new : Option (List ℕ)) →
    is_served asked ≡ false → Keeps old new → LeavesAtReadFault asked d b left old new
unserved_fault (Some (serve a)) d b left old new whole k = absurd (false≢true (sym whole))
unserved_fault _ d b left old new whole k = k

pub kept_memory : (asked : Option Asked) (d : Documents) (b : List ℕ) (old new : Option (List ℕ)) → Keeps old new →
    LeavesOutOfMemory asked d b old new
kept_memory (Some (serve a)) d b old new k = inl k
kept_memory _ d b old new k = k

part_at_fault : (asked : Option Asked) (d : Documents) (b : List ℕ) (left old new : Option (List ℕ)) →
    WritesPart asked d b old new → LeavesAtWriteFault asked d b left old new
part_at_fault (Some (serve a)) d b left old new w = inl w
part_at_fault _ d b left old new w = w

whole_answer : (asked : Option Asked) (d : Documents) (b : List ℕ) (left old new : Option (List ℕ)) (text : List ℕ) (status : Status) → IsTextOf text status → Appends old new text →
    Output asked d b text status → LeavesInSink asked d b left old new status
whole_answer asked d b left old new text Done w a o = record { text = text; appended = a; output = o }
whole_answer asked d b left old new text No w a o = record { text = text; appended = a; output = o }
whole_answer asked d b left old new text Budget w a o = record { text = text; appended = a; output = o }
whole_answer asked d b left old new text Usage w a o = record { text = text; appended = a; output = o }
whole_answer asked d b left old new text (Refused number place) w a o = record { text = text; appended = a; output = o }
whole_answer asked d b left old new text (NotAccepted number place) w a o = record { text = text; appended = a; output = o }
whole_answer asked d b left old new text _ w a o = absurd w

text_by_status : (asked : Option Asked) (old new : Option (List ℕ)) (text : List ℕ) (status : Status) →
    IsTextOf text status → Appends old new text → LeavesByStatus asked old new status
text_by_status asked old new text Done w a = tt
text_by_status asked old new text No w a = tt
text_by_status asked old new text Budget w a = tt
text_by_status asked old new text Usage w a = subst (Appends old new) w a
text_by_status asked old new text (Refused number place) w a = subst (Appends old new) w a
text_by_status asked old new text (NotAccepted number place) w a = subst (Appends old new) w a
text_by_status asked old new text _ w a = absurd w

-- an answer that is written has one of its own ends
no_stop : (text : List ℕ) (status end : Status) → IsTextOf text status → status ≡ end → (IsTextOf text end → ⊥) → ⊥
no_stop text status end w e f = f (subst (IsTextOf text) e w)

-- words that ask for nothing have the text of usage
usage_alone : (text : List ℕ) (status : Status) → IsUsageEnd status → IsTextOf text status → text ≡ usage_text
usage_alone text Usage m w = w
usage_alone text WriteFault m w = absurd w
usage_alone text Memory m w = absurd w
usage_alone text _ m w = absurd m

pub fault_end : (asked : Option Asked) → MayEnd asked WriteFault
fault_end (Some (demo a)) = tt
fault_end _ = tt

-- ---- a run, from its answer

module _ {F S W : Type 0} (documents : F → Option Documents) (faults given absent : F → ℕ) (left : S → Option (List ℕ)) (source_faults source_given : S → ℕ)
    (held : W → Option (List ℕ)) (sink_faults : W → ℕ) (asked : Option Asked) (old new : F) (s t : S) (k l : W) where
  abbrev RunsTo : Status → Type 0
  RunsTo r = Runs documents faults given absent left source_faults source_given held sink_faults asked old new s t k l r

  abbrev AnswersBy : Result Answer ReadStop → Type 0
  AnswersBy x = AnswersWords documents faults given absent left source_faults source_given asked old new s t x

  module _ (a : Answer) (h : AnswersBy (Ok a)) (never_fall : sink_faults k ≤ sink_faults l) where
    abbrev Leaves : Status → Type 0
    Leaves r = WhereTold asked (documents old) (left s) (λ d b. LeavesInSink asked d b (left t) (held k) (held l) r)

    same_faults : (faults new ≡ faults old) × (source_faults t ≡ source_faults s)
    same_faults = elim h.faults_are_told [ inl e ↦ absurd cc | inr same ↦ same ]

    -- it is written whole
    written_runs : Appends (held k) (held l) (string_bytes a.text) → sink_faults l ≡ sink_faults k → RunsTo a.status
    written_runs appended same = record {
      output = WhereTold-weaker asked (documents old) (left s) _ _ (λ d b out.
          whole_answer asked d b (left t) (held k) (held l) (string_bytes a.text) a.status h.written.is_text appended out) h.output;
      by_status = text_by_status asked (held k) (held l) (string_bytes a.text) a.status h.written.is_text appended;
      usage_part = λ none e. absurd (no_stop (string_bytes a.text) a.status WriteFault h.written.is_text e (λ w. w));
      status = h.written.may_end;
      read_fault = λ e. absurd (no_stop (string_bytes a.text) a.status ReadFault h.written.is_text e (λ w. w));
      write_fault = λ e. absurd (no_stop (string_bytes a.text) a.status WriteFault h.written.is_text e (λ w. w));
      read_faults_are_told = inr same_faults;
      write_faults_are_told = inr same;
      too_long = λ e. absurd (no_stop (string_bytes a.text) a.status TooLong h.written.is_text e (λ w. w));
      above = λ more. absurd (h.above more);
      source_waits = h.source_waits;
      shelf_stays = h.none_stays;
      ends = h.ends;
      documents_stay = h.documents_stay;
      absent_openings_stay = h.absent_openings_stay;
      shelf_faults = h.faults_never_fall;
      faults_of_source = h.source_faults_never_fall;
      faults_of_sink = never_fall;
    }

    -- the sink fails
    failed_runs : AppendsPart (held k) (held l) (string_bytes a.text) → Rose (sink_faults k) (sink_faults l) →
        RunsTo WriteFault
    failed_runs part rose = record {
      output = WhereTold-weaker asked (documents old) (left s) _ _ (λ d b out. part_at_fault asked d b (left t) (held k) (held l)
          (record { text = string_bytes a.text; status = a.status; appended = part; output = out })) h.output;
      by_status = tt;
      usage_part = λ none e. subst (AppendsPart (held k) (held l))
          (usage_alone (string_bytes a.text) a.status (subst (λ w. MayEnd w a.status) none h.written.may_end) h.written.is_text) part;
      status = fault_end asked;
      read_fault = λ e. absurd cc;
      write_fault = λ e. rose;
      read_faults_are_told = inr same_faults;
      write_faults_are_told = inl refl;
      too_long = λ e. absurd cc;
      above = λ more. absurd (h.above more);
      source_waits = h.source_waits;
      shelf_stays = h.none_stays;
      ends = λ is. absurd is;
      documents_stay = h.documents_stay;
      absent_openings_stay = h.absent_openings_stay;
      shelf_faults = h.faults_never_fall;
      faults_of_source = h.source_faults_never_fall;
      faults_of_sink = never_fall;
    }

    pub answer_runs : (r : Status) → IsWriting held sink_faults (string_bytes a.text) a.status k l r → RunsTo r
    answer_runs r w = elim w [
      | inl all ↦ subst RunsTo (sym all.0) (written_runs all.1 all.2)
      | inr part ↦ subst RunsTo (sym part.0) (failed_runs part.1 part.2)
    ]

-- ---- a run whose input was not read to its end

module _ {F S W : Type 0} (documents : F → Option Documents) (faults given absent : F → ℕ) (left : S → Option (List ℕ)) (source_faults source_given : S → ℕ)
    (held : W → Option (List ℕ)) (sink_faults : W → ℕ) (asked : Option Asked) (old new : F) (s t : S) (k : W) where
  abbrev StopsBy : ReadStop → Type 0
  StopsBy e = AnswersWords documents faults given absent left source_faults source_given asked old new s t (Err e)

  -- what a fault of reading leaves
  abbrev IsQuiet : Type 0
  IsQuiet = WhereTold asked (documents old) (left s) (λ d b. LeavesAtReadFault asked d b (left t) (held k) (held k))

  stopped_output : (e : ReadStop) → IsQuiet →
      (e ≡ read.TooLong → WhereTold asked (documents old) (left s) (λ d b. Output asked d b [] TooLong)) →
      WhereTold asked (documents old) (left s) (λ d b. LeavesInSink asked d b (left t) (held k) (held k) (end_of_stop e))
  stopped_output read.ReadFault quiet long = quiet
  stopped_output read.Memory quiet long = WhereTold-always asked (documents old) (left s) _ (λ d b. kept_memory asked d b (held k) (held k) (Keeps-refl (held k)))
  stopped_output read.TooLong quiet long =
      WhereTold-weaker asked (documents old) (left s) _ _ (λ d b out. record { text = []; appended = Appends-nil (held k); output = out }) (long refl)

  stopped_by_status : (e : ReadStop) → LeavesByStatus asked (held k) (held k) (end_of_stop e)
  stopped_by_status read.ReadFault = λ whole. Keeps-refl (held k)
  stopped_by_status read.Memory = λ whole. Keeps-refl (held k)
  stopped_by_status read.TooLong = λ whole. Keeps-refl (held k)

  is_no_write_fault : (e : ReadStop) → end_of_stop e ≡ WriteFault → ⊥
  is_no_write_fault read.ReadFault i = cc
  is_no_write_fault read.Memory i = cc
  is_no_write_fault read.TooLong i = cc

  is_no_answer : (e : ReadStop) → IsAnswered (end_of_stop e) → ⊥
  is_no_answer read.ReadFault i = i
  is_no_answer read.Memory i = i
  is_no_answer read.TooLong i = i

  is_read_fault : (e : ReadStop) → end_of_stop e ≡ ReadFault → e ≡ read.ReadFault
  is_read_fault read.ReadFault i = refl
  is_read_fault read.Memory i = absurd cc
  is_read_fault read.TooLong i = absurd cc

  is_too_long : (e : ReadStop) → end_of_stop e ≡ TooLong → e ≡ read.TooLong
  is_too_long read.ReadFault i = absurd cc
  is_too_long read.Memory i = absurd cc
  is_too_long read.TooLong i = refl

  long_end : (e : ReadStop) → IsTooLongRead {T = Answer} (Err e) → IsLongEnd (end_of_stop e) asked
  long_end read.ReadFault i = absurd i
  long_end read.Memory i = tt
  long_end read.TooLong i = tt

  pub stop_runs : (e : ReadStop) → IsQuiet → StopsBy e →
      Runs documents faults given absent left source_faults source_given held sink_faults asked old new s t k k (end_of_stop e)
  stop_runs e quiet h = record {
    output = stopped_output e quiet (λ i. h.long_output (ap Err i));
    by_status = stopped_by_status e;
    usage_part = λ none i. absurd (is_no_write_fault e i);
    status = h.may_end;
    read_fault = λ i. h.read_fault (ap Err (is_read_fault e i));
    write_fault = λ i. absurd (is_no_write_fault e i);
    read_faults_are_told = elim h.faults_are_told [ inl i ↦ inl (ap end_of_stop {x = e} {y = read.ReadFault} cc) | inr same ↦ inr same ];
    write_faults_are_told = inr refl;
    too_long = λ i. h.too_long (ap Err (is_too_long e i));
    above = λ more. long_end e (h.above more);
    source_waits = h.source_waits;
    shelf_stays = h.none_stays;
    ends = λ is. absurd (is_no_answer e is);
    documents_stay = h.documents_stay;
    absent_openings_stay = h.absent_openings_stay;
    shelf_faults = h.faults_never_fall;
    faults_of_source = h.source_faults_never_fall;
    faults_of_sink = omega arith;
  }

-- ---- a run, from what writing its answer does

module _ {F S W : Type 0} (documents : F → Option Documents) (faults given absent : F → ℕ) (left : S → Option (List ℕ)) (source_faults source_given : S → ℕ)
    (held : W → Option (List ℕ)) (sink_faults : W → ℕ) (old new : F) (s t : S) (k l : W) where
  abbrev RunsFor : Option Asked → Status → Type 0
  RunsFor asked r = Runs documents faults given absent left source_faults source_given held sink_faults asked old new s t k l r

  abbrev IsQuietRun : Option Asked → Type 0
  IsQuietRun asked = WhereTold asked (documents old) (left s) (λ d b. LeavesAtReadFault asked d b (left t) (held k) (held k))

  quiet_whole : (asked : Option Asked) → is_served asked ≡ false → IsQuietRun asked
  quiet_whole asked whole = WhereTold-always asked (documents old) (left s) _ (λ d b. unserved_fault asked d b (left t) (held k) (held k) whole (Keeps-refl (held k)))

  pub words_run : (asked : Option Asked) (x : Result Answer ReadStop) (r : Status) → IsQuietRun asked →
      sink_faults k ≤ sink_faults l →
      AnswersWords documents faults given absent left source_faults source_given asked old new s t x →
      MatchResult x (λ a. IsWriting held sink_faults (string_bytes a.text) a.status k l r) (λ e. (r ≡ end_of_stop e) × (l ≡ k)) → RunsFor asked r
  words_run asked (Ok a) r quiet fall h w = answer_runs documents faults given absent left source_faults source_given held sink_faults asked old new s t k l a h fall r w
  words_run asked (Err e) r quiet fall h w =
      subst (λ j. Runs documents faults given absent left source_faults source_given held sink_faults asked old new s t k j r) (sym w.1)
      (subst (λ i. Runs documents faults given absent left source_faults source_given held sink_faults asked old new s t k k i) (sym w.0)
      (stop_runs documents faults given absent left source_faults source_given held sink_faults asked old new s t k e quiet h))

  -- the run of words that ask for a command
  pub command_runs : (asked : Asked) (words : Option Asked) (x : Result Answer Stop) (r : Status) →
      is_served (Some asked) ≡ false → Some asked ≡ words →
      Answers documents faults given absent left source_faults source_given asked old new s t x → Tells held sink_faults x k l r → RunsFor words r
  command_runs asked words x r whole e h w = subst (λ i. RunsFor i r) e
      (words_run (Some asked) w.spoken r (quiet_whole (Some asked) whole) w.faults_never_fall
      (spoken documents faults given absent left source_faults source_given old new s t asked x w.spoken w.is_spoken h) w.writes)

-- the run of words that ask for a command that reads no source
module _ {F S W : Type 0} (documents : F → Option Documents) (faults given absent : F → ℕ)
    (left : S → Option (List ℕ)) (source_faults source_given : S → ℕ) (held : W → Option (List ℕ))
    (sink_faults : W → ℕ) (old new : F) (s : S) (k l : W) where
  pub alone_runs : (asked : Asked) (words : Option Asked) (x : Result Answer Stop) (r : Status) →
      is_served (Some asked) ≡ false → reads_source asked ≡ false → Some asked ≡ words →
      AnswersAlone documents faults given absent asked old new x → Tells held sink_faults x k l r →
      Runs documents faults given absent left source_faults source_given held sink_faults words old new s s k l r
  alone_runs asked words x r whole alone e h w =
      command_runs documents faults given absent left source_faults source_given held sink_faults old new s s k l
      asked words x r whole e
      (answers_alone documents faults given absent left source_faults source_given asked alone old new s x h) w

-- the run of words that ask for nothing
module _ {F S W : Type 0} (documents : F → Option Documents) (faults given absent : F → ℕ) (left : S → Option (List ℕ)) (source_faults source_given : S → ℕ)
    (held : W → Option (List ℕ)) (sink_faults : W → ℕ) (old : F) (s : S) where
  pub memory_runs : (asked : Option Asked) (k : W) →
      Runs documents faults given absent left source_faults source_given held sink_faults asked old old s s k k Memory
  memory_runs asked k =
      let stop = memory_answers documents faults given absent left source_faults source_given old s asked in
      record {
        output = WhereTold-always asked (documents old) (left s) _ (λ d b. kept_memory asked d b (held k) (held k) (Keeps-refl (held k)));
        by_status = λ whole. Keeps-refl (held k);
        usage_part = λ none e. absurd cc;
        status = stop.may_end;
        read_fault = λ e. absurd cc;
        write_fault = λ e. absurd cc;
        read_faults_are_told = inr (refl, refl);
        write_faults_are_told = inr refl;
        too_long = λ e. absurd cc;
        above = λ more. tt;
        source_waits = stop.source_waits;
        shelf_stays = λ none. refl;
        ends = λ is. absurd is;
        documents_stay = refl;
        absent_openings_stay = λ there. refl;
        shelf_faults = omega arith;
        faults_of_source = omega arith;
        faults_of_sink = omega arith;
      }

  module _ (k l : W) (r : Status) where
    usage_words : (x : Result Answer Stop) (y : Result Answer ReadStop) → IsSpoken x y →
        MatchResult x (λ a. (a.status ≡ Usage) × (string_bytes a.text ≡ usage_text)) (λ e. e ≡ stop.Memory) →
        AnswersWords documents faults given absent left source_faults source_given None old old s s y
    usage_words (Ok a) y is u = subst (AnswersWords documents faults given absent left source_faults source_given None old old s s) (sym is)
        (usage_answers documents faults given absent left source_faults source_given old s None a refl u.0 u.1)
    usage_words (Err e) y is u = subst (AnswersWords documents faults given absent left source_faults source_given None old old s s) (sym (subst (λ i. IsSpoken (Err i) y) u is))
        (memory_answers documents faults given absent left source_faults source_given old s None)

    pub usage_runs : (words : Option Asked) (x : Result Answer Stop) → None ≡ words →
        MatchResult x (λ a. (a.status ≡ Usage) × (string_bytes a.text ≡ usage_text)) (λ e. e ≡ stop.Memory) → Tells held sink_faults x k l r →
        Runs documents faults given absent left source_faults source_given held sink_faults words old old s s k l r
    usage_runs words x e u w = subst (λ i. Runs documents faults given absent left source_faults source_given held sink_faults i old old s s k l r) e
        (words_run documents faults given absent left source_faults source_given held sink_faults old old s s k l None w.spoken r (quiet_whole documents faults given absent left source_faults source_given held sink_faults old old s s k l None refl) w.faults_never_fall
        (usage_words x w.spoken w.is_spoken u) w.writes)
