-- From the answering of a script over a calculus to a run.
use Rattle.std.proofs.Common.{◌≡◌, ℕ, List, Option, None, Some, Result, Ok, Err, inl, inr, refl, sym}
use Rattle.std.specs.Prelude.{IfSome}
use Rattle.std.proofs.KnownBytes.{Keeps-refl}
use Rattle.std.proofs.lemmas.Bool.{false≢true}
use Rattle.calculus_table.specs.Calculus.{NamedAlgebra}
use Rattle.qsr_outside.specs.Documents.{Documents}
use Rattle.qsr_words.specs.Asked.{ServeAsked, serve}
use Rattle.qsr_inputs.specs.Inputs.{CalculusOf}
use Rattle.qsr_inputs.specs.Told.{named_by_calculus, told_documents}
use Rattle.qsr_inputs.specs.Readings.{Fetches}
use Rattle.qsr_inputs.specs.declared.stops.Stop.{Stop}
use Rattle.qsr_inputs.specs.declared.statuses.Status.{Status}
use Rattle.qsr_inputs.specs.declared.statuses.Status.TheVariants.{Done, ReadFault, WriteFault, Memory, TooLong}
use Rattle.qsr_inputs.proofs.Parts.{value_or_cause}
use Rattle.qsr_inputs.proofs.Naming.{IfSome-weaker, told_all, named-told}
use Rattle.qsr_inputs.proofs.Fetching.{not_failed}
use Rattle.qsr_inputs.proofs.InputsOnce.{DocumentsGive-one}
use Rattle.qsr_answers.specs.Commands.{IsAnswered}
use Rattle.qsr_commands.specs.Output.{Works}
use Rattle.qsr_commands.specs.Serving.{ServesScript, Serves, IsServing, WritesByStatus}
use Rattle.qsr_commands.specs.Ends.{MayEnd}
use Rattle.qsr_commands.specs.SinkAfter.{LeavesInSink, LeavesByStatus, LeavesAtReadFault}
use Rattle.qsr_commands.specs.Spoken.{Tells}
use Rattle.qsr_commands.specs.Runs.{Runs}
use Rattle.qsr_commands.proofs.CommandAnswers.{given_stopped}
use Rattle.qsr_commands.proofs.Answering.{words_run, spoken}

-- ---- what is left in the sink

module _ (asked : ServeAsked) (c : NamedAlgebra) (d : Documents) (gives : CalculusOf d asked.calculus (Ok c)) (b : List ℕ) (left old new : Option (List ℕ)) where
  served_works : (text : List ℕ) (status : Status) → ServesScript asked c b text status → Works (serve asked) d b text status
  served_works text status h = record {
    value = record { given = c; read = b };
    input = record { value = c; first = gives; second = record { value = b; first = refl; second = refl } };
    work = h;
  }

  served_leaves : (r : Status) → WritesByStatus asked c b left old new r → LeavesInSink (Some (serve asked)) d b left old new r
  served_leaves Done w = record { text = w.text; appended = w.appended; output = served_works w.text Done w.serves }
  served_leaves TooLong w = record { text = w.text; appended = w.appended; output = inr (served_works w.text TooLong w.serves) }
  served_leaves ReadFault w = inr (record { calculus = c; gives = gives; holds = w })
  served_leaves Memory w = inr (record { calculus = c; gives = gives; holds = w })
  served_leaves WriteFault w = inr (record { calculus = c; gives = gives; holds = w })
  served_leaves _ w = absurd w

served_by_status : (asked : ServeAsked) (old new : Option (List ℕ)) (r : Status) → IsServing r → LeavesByStatus (Some (serve asked)) old new r
served_by_status asked old new Done i = tt
served_by_status asked old new TooLong i = λ whole. absurd (false≢true (sym whole))
served_by_status asked old new ReadFault i = λ whole. absurd (false≢true (sym whole))
served_by_status asked old new Memory i = λ whole. absurd (false≢true (sym whole))
served_by_status asked old new WriteFault i = tt
served_by_status asked old new _ i = absurd i

served_end : (asked : ServeAsked) (r : Status) → IsServing r → MayEnd (Some (serve asked)) r
served_end asked Done i = tt
served_end asked TooLong i = tt
served_end asked ReadFault i = tt
served_end asked Memory i = tt
served_end asked WriteFault i = tt
served_end asked _ i = absurd i

served_done : (r : Status) → IsServing r → IsAnswered r → r ≡ Done
served_done Done i a = refl
served_done TooLong i a = absurd a
served_done ReadFault i a = absurd a
served_done Memory i a = absurd a
served_done WriteFault i a = absurd a
served_done _ i a = absurd i

-- ---- the run

module _ {F S W : Type 0} (documents : F → Option Documents) (faults given absent : F → ℕ) (left : S → Option (List ℕ)) (source_faults source_given : S → ℕ)
    (held : W → Option (List ℕ)) (sink_faults : W → ℕ) (asked : ServeAsked) (old new : F) where
  abbrev FetchesCalculus : Result NamedAlgebra Stop → Type 0
  FetchesCalculus r = Fetches documents faults given absent (named_by_calculus asked.calculus) (λ d. CalculusOf d asked.calculus) old new r

  -- the calculus is there
  pub serving_runs : (s t : S) (k l : W) (c : NamedAlgebra) (r : Status) → FetchesCalculus (Ok c) → Serves left source_faults source_given held sink_faults asked c s t k l r →
      Runs documents faults given absent left source_faults source_given held sink_faults (Some (serve asked)) old new s t k l r
  serving_runs s t k l c r f h =
      let told : IfSome (told_documents (Some (serve asked)) (documents old)) (λ d. CalculusOf d asked.calculus (Ok c)) = named-told (named_by_calculus asked.calculus) (documents old) _ f.value in
      let same : faults new ≡ faults old = not_failed c _ f.faults_are_told in
      record {
        output = IfSome-weaker (told_documents (Some (serve asked)) (documents old)) _ _ (λ d gives. IfSome-weaker (left s) _ _ (λ b w.
            served_leaves asked c d gives b (left t) (held k) (held l) r w) h.writes) told;
        by_status = served_by_status asked (held k) (held l) r h.status;
        usage_part = λ none e. absurd cc;
        status = served_end asked r h.status;
        read_fault = λ e. inr (h.read_fault e);
        write_fault = h.write_fault;
        read_faults_are_told = elim h.read_faults_are_told [ inl e ↦ inl e | inr still ↦ inr (same, still) ];
        write_faults_are_told = h.write_faults_are_told;
        too_long = λ e. inr (h.too_long e);
        above = h.above;
        source_waits = IfSome-weaker (told_documents (Some (serve asked)) (documents old)) _ _ (λ d i cause j.
            absurd (value_or_cause c cause (Ok c) (Err cause) refl refl (DocumentsGive-one (serve asked) d (Ok c) (Err cause) i j))) told;
        shelf_stays = f.none_stays;
        ends = λ is e. h.ends (served_done r h.status is);
        documents_stay = f.documents_stay;
        absent_openings_stay = λ there. f.absent_openings_stay there;
        shelf_faults = f.faults_never_fall;
        faults_of_source = h.faults_never_fall;
        faults_of_sink = h.sink_faults_never_fall;
      }

  -- the calculus isn't there
  pub refused_runs : (s : S) (k l : W) (stop : Stop) (r : Status) → FetchesCalculus (Err stop) → Tells held sink_faults (Err stop) k l r →
      Runs documents faults given absent left source_faults source_given held sink_faults (Some (serve asked)) old new s s k l r
  refused_runs s k l stop r f w =
      words_run documents faults given absent left source_faults source_given held sink_faults old new s s k l (Some (serve asked)) w.spoken r
      (told_all (told_documents (Some (serve asked)) (documents old)) _ (λ d. quiet d (left s))) w.faults_never_fall
      (spoken documents faults given absent left source_faults source_given old new s s (serve asked) (Err stop) w.spoken w.is_spoken
      (given_stopped documents faults given absent left source_faults source_given (serve asked) refl old new s stop f)) w.writes
    where
      quiet : (d : Documents) (o : Option (List ℕ)) → IfSome o (λ b. LeavesAtReadFault (Some (serve asked)) d b o (held k) (held k))
      quiet d None = tt
      quiet d (Some b) = inl (refl, Keeps-refl (held k))
