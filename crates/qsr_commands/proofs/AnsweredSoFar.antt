-- How far a script was answered, over every source and sink, and what holds where that ends.
use Rattle.std.proofs.Common.{◌≡◌, ℕ, ◌+◌, ◌-◌, ◌*◌, ◌^◌, ◌<◌, ◌≤◌, Bool, true, false, min, List, [], ◌∷◌, ◌++◌, length, Option, None, Some, Result, Ok, Err, inl, inr, refl, sym, ◌∙◌, ap, subst, arith, length-append}
use Rattle.std.specs.Prelude.{IfSome}
use Rattle.std.specs.Io.KnownBytes.{Appends, IsAtEnd}
use Rattle.std.proofs.KnownBytes.{Appends-trans, Appends-nil}
use Rattle.std.proofs.lemmas.Bool.{false≢true}
use Rattle.calculus_table.specs.Calculus.{NamedAlgebra}
use Rattle.qsr_lex.specs.declared.TheConstants.{MAX_TEXT}
use Rattle.qsr_outside.specs.Counts.{Rose, RoseBy, RoseAbove}
use Rattle.qsr_outside.specs.Writing.{AppendsPart}
use Rattle.qsr_outside.specs.declared.reading.ReadStop.{ReadStop}
use Rattle.qsr_outside.specs.declared.reading.ReadStop.TheVariants as read
use Rattle.qsr_words.specs.Asked.{ServeAsked}
use Rattle.session_versions.specs.Stores.{StoreState}
use Rattle.session_scripts.specs.Batches.{BatchState, IsBatch}
use Rattle.session_scripts.specs.Readers.{ReaderState, new_reader, given_to, ReadsNext}
use Rattle.session_scripts.specs.declared.TheConstants.{PIECE}
use Rattle.session_replies.specs.Replies.{IsAnswered, AreAnswered}
use Rattle.qsr_inputs.specs.declared.statuses.Status.{Status}
use Rattle.qsr_inputs.specs.declared.statuses.Status.TheVariants.{Done, ReadFault, WriteFault, Memory, TooLong}
use Rattle.qsr_inputs.proofs.Naming.{IfSome-weaker}
use Rattle.qsr_commands.specs.Ends.{end_of_stop}
use Rattle.qsr_commands.specs.Serving.{first_store, Serves, end_of_serving}
use Rattle.qsr_commands.proofs.ScriptsSoFar.{SoFar, answers_more, no_batch_yet, so_far_next, served_whole, given_so_far, served_long, first_written, part_written}

-- ---- counts

-- what was given in two reads
RoseBy-trans : (a b c m n : ℕ) → RoseBy a b m → RoseBy b c n → RoseBy a c (m + n)
RoseBy-trans a b c m n h k = record {
  never_fell = omega (arith, h.never_fell, k.never_fell);
  at_most = omega (arith, h.at_most, k.at_most);
  at_least = rose (2 ^ 64 - 1) h.at_least k.at_least;
}
  where
    rose : (last : ℕ) → min (a + m) last ≤ b → min (b + n) last ≤ c → min (a + (m + n)) last ≤ c
    rose last p q = omega (arith, h.never_fell, k.never_fell)

-- more than the limit was given
rose_above : (a b m limit : ℕ) → limit < m → RoseBy a b m → RoseAbove a b limit
rose_above a b m limit more h = rose (2 ^ 64 - 1) h.at_least
  where
    rose : (last : ℕ) → min (a + m) last ≤ b → min (a + limit + 1) last ≤ b
    rose last p = omega arith

-- ---- the store after a batch

-- a batch makes one version
committed_number : (c : NamedAlgebra) (store after : StoreState) (batch : BatchState) (text : List ℕ) → IsAnswered c store batch text after → after.newest.number ≡ store.newest.number + 1
committed_number c store after batch text h = ap (λ s. s.newest.number) h.commits

committed_nodes : (c : NamedAlgebra) (store after : StoreState) (batch : BatchState) (text : List ℕ) → IsAnswered c store batch text after → after.nodes ≡ store.nodes
committed_nodes c store after batch text h = ap (λ s. s.nodes) h.commits

committed_calculus : (c : NamedAlgebra) (store after : StoreState) (batch : BatchState) (text : List ℕ) → IsAnswered c store batch text after → after.calculus ≡ store.calculus
committed_calculus c store after batch text h = ap (λ s. s.calculus) h.commits

-- ---- the answering of a script, up to the next batch

module _ {S W : Type 0} (left : S → Option (List ℕ)) (faults given : S → ℕ) (held : W → Option (List ℕ)) (sink_faults : W → ℕ)
    (asked : ServeAsked) (c : NamedAlgebra) (s0 : S) (k0 : W) where
  pub record Serving (s : S) (k : W) (store : StoreState) (reader : ReaderState) : Type 0 where
    pub done : List BatchState
    pub text : List ℕ
    pub answered : AreAnswered c (first_store c.algebra asked.nodes) done text store
    pub appended : Appends (held k0) (held k) text
    pub told : IfSome (left s0) (λ script. SoFar asked c script (left s) reader done)
    pub given_is : RoseBy (given s0) (given s) (given_to reader)
    pub limit_is : reader.limit ≡ MAX_TEXT
    pub no_stop : reader.stop ≡ None
    pub within : reader.cut ≤ MAX_TEXT
    pub at_end : reader.ended ≡ true → IsAtEnd (left s)
    pub nodes_are : store.nodes ≡ asked.nodes
    pub calculus_is : store.calculus ≡ c.algebra
    pub versions : store.newest.number ≤ reader.cut
    pub facts : store.next_fact ≤ 1 + 4097 * reader.cut
    pub same_faults : faults s ≡ faults s0
    pub same_sink_faults : sink_faults k ≡ sink_faults k0

  abbrev ServesTo : S → W → Status → Type 0
  ServesTo s k r = Serves left faults given held sink_faults asked c s0 s k0 k r

  -- nothing was answered yet
  pub serving_first : (store : StoreState) (reader : ReaderState) → store ≡ first_store c.algebra asked.nodes → reader ≡ new_reader MAX_TEXT → Serving s0 k0 store reader
  serving_first store reader e f = record {
    done = [];
    text = [];
    answered = (refl, e);
    appended = Appends-nil (held k0);
    told = told_first (left s0);
    given_is = subst (RoseBy (given s0) (given s0)) (sym (ap given_to f)) (record { never_fell = omega arith; at_most = omega arith; at_least = rose (2 ^ 64 - 1) });
    limit_is = ap (λ r. r.limit) f;
    no_stop = ap (λ r. r.stop) f;
    within = omega (arith, ap (λ r. r.cut) f);
    at_end = λ e. absurd (false≢true (sym (ap (λ r. r.ended) f) ∙ e));
    nodes_are = ap (λ x. x.nodes) e;
    calculus_is = ap (λ x. x.calculus) e;
    versions = omega (arith, ap (λ x. x.newest.number) e);
    facts = omega (arith, ap (λ x. x.next_fact) e);
    same_faults = refl;
    same_sink_faults = refl;
  }
    where
      told_first : (l : Option (List ℕ)) → IfSome l (λ script. SoFar asked c script l reader [])
      told_first None = tt
      told_first (Some script) = no_batch_yet asked c script (Some script) reader refl (ap (λ r. r.kept) f) (ap (λ r. r.cut) f)

      rose : (last : ℕ) → min (given s0 + (0 + 0)) last ≤ given s0
      rose last = omega arith

  -- memory ran out
  pub serves_memory : (s : S) (k : W) (store : StoreState) (reader : ReaderState) → Serving s k store reader → ServesTo s k Memory
  serves_memory s k store reader h = record {
    writes = IfSome-weaker (left s0) _ _ (λ script far. first_written asked c script (left s) reader h.done far (held k0) (held k) h.text store h.answered h.appended) h.told;
    status = tt;
    read_fault = λ e. absurd cc;
    write_fault = λ e. absurd cc;
    read_faults_are_told = inr h.same_faults;
    write_faults_are_told = inr h.same_sink_faults;
    too_long = λ e. absurd cc;
    above = λ more. tt;
    ends = λ e. absurd cc;
    faults_never_fall = omega (arith, h.same_faults);
    sink_faults_never_fall = omega (arith, h.same_sink_faults);
  }

  -- before anything was read, too
  pub serves_nothing : ServesTo s0 k0 Memory
  serves_nothing = serves_memory s0 k0 (first_store c.algebra asked.nodes) (new_reader MAX_TEXT) (serving_first (first_store c.algebra asked.nodes) (new_reader MAX_TEXT) refl refl)

  pub serves_err : {E : Type 0} (s : S) (k : W) (r : Result Status E) (e : E) → r ≡ Err e → ServesTo s k Memory → ServesTo s k (end_of_serving r)
  serves_err s k r e is h = subst (λ x. ServesTo s k (end_of_serving x)) (sym is) h

  -- the next batch is read
  module _ (s t : S) (k : W) (store : StoreState) (reader new : ReaderState) (h : Serving s k store reader) (never_fall : faults s ≤ faults t) where
    abbrev Reads : Result (Option BatchState) ReadStop → Type 0
    Reads r = ReadsNext c.names asked.nodes reader new (left s) (left t) (given s) (given t) (faults s) (faults t) r

    given_now : (r : Result (Option BatchState) ReadStop) → Reads r → RoseBy (given s0) (given t) (given_to new)
    given_now r x = subst (RoseBy (given s0) (given t)) (sym x.given_is) (RoseBy-trans (given s0) (given s) (given t) (given_to reader) (length x.taken) h.given_is x.counts)

    pending_length : (r : Result (Option BatchState) ReadStop) (x : Reads r) → given_to new ≡ reader.cut + length (reader.kept ++ x.taken)
    pending_length r x = omega (arith, x.given_is, length-append reader.kept x.taken)

    same_now : (r : Result (Option BatchState) ReadStop) (x : Reads r) → (r ≡ Err read.ReadFault → ⊥) → faults t ≡ faults s0
    same_now r x other = elim x.faults_are_told [ inl e ↦ absurd (other e) | inr same ↦ same ∙ h.same_faults ]

    at_end_now : (r : Result (Option BatchState) ReadStop) → Reads r → (reader.ended ≡ true → t ≡ s) → new.ended ≡ true → IsAtEnd (left t)
    at_end_now r x waits e = by_ended reader.ended (λ b. subst (λ u. IsAtEnd (left u)) (sym (waits b)) (h.at_end b)) (λ b. x.end_is_met b e)
      where
        by_ended : (b : Bool) → (b ≡ true → IsAtEnd (left t)) → (b ≡ false → IsAtEnd (left t)) → IsAtEnd (left t)
        by_ended true p q = p refl
        by_ended false p q = q refl

    -- there is none
    pub serves_done : Reads (Ok None) → (reader.ended ≡ true → t ≡ s) → ServesTo t k Done
    serves_done x waits =
        let met : IsAtEnd (left t) = at_end_now (Ok None) x waits x.next.ended in
        let same : faults t ≡ faults s0 = same_now (Ok None) x (λ e. cc) in
        let few : given_to new ≤ MAX_TEXT = omega (arith, pending_length (Ok None) x, x.next.within, h.limit_is, length-append reader.kept x.taken) in
        record {
          writes = IfSome-weaker (left s0) _ _ (λ script far. served_whole asked c script (left s) (left t) reader new h.done far x.taken x.consumes (held k0) (held k) h.text store
              h.answered h.appended x.next met h.limit_is) h.told;
          status = tt;
          read_fault = λ e. absurd cc;
          write_fault = λ e. absurd cc;
          read_faults_are_told = inr same;
          write_faults_are_told = inr h.same_sink_faults;
          too_long = λ e. absurd cc;
          above = λ more. absurd (omega (arith, more, few, (given_now (Ok None) x).at_most));
          ends = λ e. met;
          faults_never_fall = omega (arith, same);
          sink_faults_never_fall = omega (arith, h.same_sink_faults);
        }

    -- it can't be read
    serves_fault : Reads (Err read.ReadFault) → reader.ended ≡ false → ServesTo t k ReadFault
    serves_fault x goes =
        let few : given_to new ≤ MAX_TEXT = omega (arith, x.within_before_fault refl, h.limit_is) in
        record {
          writes = IfSome-weaker (left s0) _ _ (λ script far. given_so_far asked c script (left s) (left t) reader new h.done far x.taken x.consumes (held k0) (held k) h.text store
              h.answered h.appended goes (x.whole_before_fault refl)) h.told;
          status = tt;
          read_fault = λ e. subst (λ f. Rose f (faults t)) h.same_faults (x.read_fault refl);
          write_fault = λ e. absurd cc;
          read_faults_are_told = inl refl;
          write_faults_are_told = inr h.same_sink_faults;
          too_long = λ e. absurd cc;
          above = λ more. absurd (omega (arith, more, few, (given_now (Err read.ReadFault) x).at_most));
          ends = λ e. absurd cc;
          faults_never_fall = omega (arith, h.same_faults, never_fall);
          sink_faults_never_fall = omega (arith, h.same_sink_faults);
        }

    serves_long : Reads (Err read.TooLong) → ServesTo t k TooLong
    serves_long x =
        let same : faults t ≡ faults s0 = same_now (Err read.TooLong) x (λ e. cc) in
        let long : MAX_TEXT < given_to new = omega (arith, x.too_long refl, h.limit_is) in
        let pending : MAX_TEXT < reader.cut + length (reader.kept ++ x.taken) = omega (arith, long, pending_length (Err read.TooLong) x) in
        record {
          writes = IfSome-weaker (left s0) _ _ (λ script far. served_long asked c script (left s) (left t) reader new h.done far x.taken x.consumes (held k0) (held k) h.text store
              h.answered h.appended h.limit_is h.within pending (x.whole_before_long refl)) h.told;
          status = tt;
          read_fault = λ e. absurd cc;
          write_fault = λ e. absurd cc;
          read_faults_are_told = inr same;
          write_faults_are_told = inr h.same_sink_faults;
          too_long = λ e. rose_above (given s0) (given t) (given_to new) MAX_TEXT long (given_now (Err read.TooLong) x);
          above = λ more. tt;
          ends = λ e. absurd cc;
          faults_never_fall = omega (arith, same);
          sink_faults_never_fall = omega (arith, h.same_sink_faults);
        }

    serves_no_memory : Reads (Err read.Memory) → ServesTo t k Memory
    serves_no_memory x =
        let same : faults t ≡ faults s0 = same_now (Err read.Memory) x (λ e. cc) in
        record {
          writes = IfSome-weaker (left s0) _ _ (λ script far. first_written asked c script (left s) reader h.done far (held k0) (held k) h.text store h.answered h.appended) h.told;
          status = tt;
          read_fault = λ e. absurd cc;
          write_fault = λ e. absurd cc;
          read_faults_are_told = inr same;
          write_faults_are_told = inr h.same_sink_faults;
          too_long = λ e. absurd cc;
          above = λ more. tt;
          ends = λ e. absurd cc;
          faults_never_fall = omega (arith, same);
          sink_faults_never_fall = omega (arith, h.same_sink_faults);
        }

    -- or there is a stop
    pub serves_stop : (e : ReadStop) → Reads (Err e) → (reader.ended ≡ true → e ≡ read.ReadFault → ⊥) → ServesTo t k (end_of_stop e)
    serves_stop read.ReadFault x goes = serves_fault x (not_ended reader.ended goes)
      where
        not_ended : (b : Bool) → (b ≡ true → read.ReadFault ≡ read.ReadFault → ⊥) → b ≡ false
        not_ended true f = absurd (f refl refl)
        not_ended false f = refl
    serves_stop read.TooLong x goes = serves_long x
    serves_stop read.Memory x goes = serves_no_memory x

    -- or there is one
    module _ (batch : BatchState) (x : Reads (Ok (Some batch))) (waits : reader.ended ≡ true → t ≡ s) where
      same_still : faults t ≡ faults s0
      same_still = same_now (Ok (Some batch)) x (λ e. cc)

      abbrev Far : Type 0
      Far = IfSome (left s0) (λ script. SoFar asked c script (left t) new (h.done ++ batch ∷ []))

      far_now : Far
      far_now = IfSome-weaker (left s0) _ _ (λ script far. so_far_next asked c script (left s) (left t) reader new h.done far x.taken x.consumes batch x.next
          (at_end_now (Ok (Some batch)) x waits)) h.told

      pub some_room : reader.cut + 1 ≤ new.cut
      some_room = omega (arith, x.next.some, x.next.cut_is)

      pub new_within : new.cut ≤ MAX_TEXT
      new_within = omega (arith, x.next.within, h.limit_is)

      few_kept : length new.kept < PIECE
      few_kept = elim x.next.ends [
        | inl commit ↦ commit.few
        | inr last ↦ omega (arith, ap length last.none_kept)
      ]

      -- memory ran out before it was answered
      pub serves_unanswered : ServesTo t k Memory
      serves_unanswered = record {
        writes = IfSome-weaker (left s0) _ _ (λ script far. first_written asked c script (left s) reader h.done far (held k0) (held k) h.text store h.answered h.appended) h.told;
        status = tt;
        read_fault = λ e. absurd cc;
        write_fault = λ e. absurd cc;
        read_faults_are_told = inr same_still;
        write_faults_are_told = inr h.same_sink_faults;
        too_long = λ e. absurd cc;
        above = λ more. tt;
        ends = λ e. absurd cc;
        faults_never_fall = omega (arith, same_still);
        sink_faults_never_fall = omega (arith, h.same_sink_faults);
      }

      module _ (l : W) (after : StoreState) (text : List ℕ) (answered : IsAnswered c store batch text after) where
        -- its answer isn't written whole
        pub serves_part : AppendsPart (held k) (held l) text → Rose (sink_faults k) (sink_faults l) → sink_faults k ≤ sink_faults l → ServesTo t l WriteFault
        serves_part part rose fall = record {
          writes = IfSome-weaker (left s0) _ _ (λ script far. part_written asked c script (left t) new h.done batch far few_kept (held k0) (held k) (held l) h.text text store after
              h.answered answered h.appended part) far_now;
          status = tt;
          read_fault = λ e. absurd cc;
          write_fault = λ e. subst (λ f. Rose f (sink_faults l)) h.same_sink_faults rose;
          read_faults_are_told = inr same_still;
          write_faults_are_told = inl refl;
          too_long = λ e. absurd cc;
          above = λ more. tt;
          ends = λ e. absurd cc;
          faults_never_fall = omega (arith, same_still);
          sink_faults_never_fall = omega (arith, h.same_sink_faults, fall);
        }

        -- it is answered
        pub serving_next : IsBatch batch → after.next_fact ≤ store.next_fact + length batch.lines → Appends (held k) (held l) text → sink_faults l ≡ sink_faults k → Serving t l after new
        serving_next is few appended same = record {
          done = h.done ++ batch ∷ [];
          text = h.text ++ text;
          answered = answers_more c (first_store c.algebra asked.nodes) h.done batch h.text text store after h.answered answered;
          appended = Appends-trans (held k0) (held k) (held l) h.text text h.appended appended;
          told = far_now;
          given_is = given_now (Ok (Some batch)) x;
          limit_is = x.limit_stays ∙ h.limit_is;
          no_stop = x.stop_is;
          within = new_within;
          at_end = at_end_now (Ok (Some batch)) x waits;
          nodes_are = committed_nodes c store after batch text answered ∙ h.nodes_are;
          calculus_is = committed_calculus c store after batch text answered ∙ h.calculus_is;
          versions = omega (arith, committed_number c store after batch text answered, h.versions, some_room);
          facts = omega (arith, few, is.lines, h.facts, some_room);
          same_faults = same_still;
          same_sink_faults = same ∙ h.same_sink_faults;
        }
