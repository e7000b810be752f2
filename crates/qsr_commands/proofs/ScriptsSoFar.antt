-- How far a script was answered, where the bytes of the source are told.
use Rattle.std.proofs.Common.{◌≡◌, ◌⊎◌, ℕ, ◌+◌, ◌-◌, ◌<◌, ◌≤◌, true, false, List, [], ◌∷◌, ◌++◌, length, take, Option, None, Some, inl, inr, refl, sym, ◌∙◌, ap, subst, arith, length-append, append_assoc, append-nil}
use Rattle.std.proofs.lemmas.List.{take-append-le}
use Rattle.std.proofs.Math.Seq.{take-append-add}
use Rattle.std.specs.Io.KnownBytes.{Appends, Consumes, IsAtEnd}
use Rattle.std.proofs.KnownBytes.{Appends-trans}
use Rattle.calculus_table.specs.Calculus.{NamedAlgebra}
use Rattle.qsr_lex.specs.declared.TheConstants.{MAX_TEXT}
use Rattle.qsr_outside.specs.Writing.{AppendsPart}
use Rattle.qsr_words.specs.Asked.{ServeAsked}
use Rattle.session_versions.specs.Stores.{StoreState}
use Rattle.session_scripts.specs.Batches.{BatchState}
use Rattle.session_scripts.specs.Readers.{ReaderState, EndsAtCommit, EndsAtEnd, CutsBatch, HasNoBatch}
use Rattle.session_scripts.specs.declared.TheConstants.{PIECE}
use Rattle.session_replies.specs.Replies.{IsAnswered, AreAnswered}
use Rattle.qsr_inputs.specs.declared.statuses.Status.TheVariants.{Done, TooLong}
use Rattle.qsr_inputs.proofs.Naming.{none_first, none_second}
use Rattle.qsr_commands.specs.Serving.{first_store, batches_in, committed_in, WritesServed, WritesGiven, WritesFirst, WritesPartOfBatch}

-- ---- texts of batches

-- one more batch is answered
pub answers_more : (c : NamedAlgebra) (s : StoreState) (done : List BatchState) (b : BatchState) (t u : List ℕ) (mid after : StoreState) →
    AreAnswered c s done t mid → IsAnswered c mid b u after → AreAnswered c s (done ++ b ∷ []) (t ++ u) after
answers_more c s [] b t u mid after h k = record {
  next = after;
  first = u;
  answered = subst (λ m. IsAnswered c m b u after) h.1 k;
  others = [];
  rest = (refl, refl);
  text_is = ap (λ x. x ++ u) h.0 ∙ sym (append-nil u);
}
answers_more c s (x ∷ xs) b t u mid after h k = record {
  next = h.next;
  first = h.first;
  answered = h.answered;
  others = h.others ++ u;
  rest = answers_more c h.next xs b h.others u mid after h.rest k;
  text_is = ap (λ l. l ++ u) h.text_is ∙ append_assoc h.first h.others u;
}

-- ---- the bytes of the source

-- what is told of the source after some bytes were taken
record IsLeft (left : Option (List ℕ)) (rest taken : List ℕ) : Type 0 where
  now : List ℕ
  left_is : left ≡ Some now
  rest_is : rest ≡ taken ++ now

left_after : (left : Option (List ℕ)) (rest taken : List ℕ) → Consumes (Some rest) left taken → IsLeft left rest taken
left_after None rest taken h = absurd h
left_after (Some now) rest taken h = record { now = now; left_is = refl; rest_is = h }

end_of_left : (left : Option (List ℕ)) (now : List ℕ) → left ≡ Some now → IsAtEnd left → now ≡ []
end_of_left left now e h = subst IsAtEnd e h

-- ---- how far the script was answered

module _ (asked : ServeAsked) (c : NamedAlgebra) where
  -- the batches of the bytes before go on with those of what comes after
  pub record GoesOn (whole : List ℕ) (done : List BatchState) : Type 0 where
    pub batches : (more : List ℕ) → batches_in asked c (whole ++ more) ≡ done ++ batches_in asked c more
    pub committed : (more : List ℕ) → committed_in asked c (whole ++ more) ≡ done ++ committed_in asked c more

  -- all batches were cut off
  pub record HasEnded (whole rest : List ℕ) (done : List BatchState) (reader : ReaderState) : Type 0 where
    pub ended : reader.ended ≡ true
    pub none_kept : reader.kept ≡ []
    pub none_left : rest ≡ []
    pub batches : batches_in asked c whole ≡ done

  pub record SoFar (script : List ℕ) (left : Option (List ℕ)) (reader : ReaderState) (done : List BatchState) : Type 0 where
    pub whole : List ℕ
    pub rest : List ℕ
    pub left_is : left ≡ Some rest
    pub script_is : script ≡ whole ++ (reader.kept ++ rest)
    pub cut_is : reader.cut ≡ length whole
    pub batches : GoesOn whole done ⊎ HasEnded whole rest done reader

  -- no batch was cut off
  pub no_batch_yet : (script : List ℕ) (left : Option (List ℕ)) (reader : ReaderState) → left ≡ Some script → reader.kept ≡ [] → reader.cut ≡ 0 → SoFar script left reader []
  no_batch_yet script left reader e none zero = record {
    whole = [];
    rest = script;
    left_is = e;
    script_is = sym (ap (λ k. k ++ script) none);
    cut_is = zero;
    batches = inl (record { batches = λ more. refl; committed = λ more. refl });
  }

  module _ (script : List ℕ) (left next : Option (List ℕ)) (reader new : ReaderState) (done : List BatchState) (h : SoFar script left reader done)
      (taken : List ℕ) (consumes : Consumes left next taken) where
    now : IsLeft next h.rest taken
    now = left_after next h.rest taken (subst (λ l. Consumes l next taken) h.left_is consumes)

    -- what was given after the batches
    abbrev pending : List ℕ
    pending = reader.kept ++ taken

    script_now : script ≡ h.whole ++ (pending ++ now.now)
    script_now = h.script_is ∙ ap (λ r. h.whole ++ (reader.kept ++ r)) now.rest_is ∙ ap (λ r. h.whole ++ r) (sym (append_assoc reader.kept taken now.now))

    -- nothing is pending where all batches were cut off
    none_pending : HasEnded h.whole h.rest done reader → pending ≡ []
    none_pending e = ap (λ k. k ++ taken) e.none_kept ∙ none_first taken now.now (sym now.rest_is ∙ e.none_left)

    none_now : HasEnded h.whole h.rest done reader → now.now ≡ []
    none_now e = none_second taken now.now (sym now.rest_is ∙ e.none_left)

    -- ---- one more batch is cut off

    module _ (batch : BatchState) (w : List ℕ) (text_is : pending ≡ w ++ new.kept) where
      cut_script : script ≡ (h.whole ++ w) ++ (new.kept ++ now.now)
      cut_script = script_now ∙ ap (λ o. h.whole ++ (o ++ now.now)) text_is ∙ ap (λ r. h.whole ++ r) (append_assoc w new.kept now.now)
          ∙ sym (append_assoc h.whole w (new.kept ++ now.now))

      abbrev more_done : List BatchState
      more_done = done ++ batch ∷ []

      goes_on : GoesOn h.whole done → EndsAtCommit c.names asked.nodes batch w new.kept → GoesOn (h.whole ++ w) more_done
      goes_on g e = record {
        batches = λ more. ap (batches_in asked c) (append_assoc h.whole w more) ∙ g.batches (w ++ more) ∙ ap (λ l. done ++ l) (e.batches more)
            ∙ sym (append_assoc done (batch ∷ []) (batches_in asked c more));
        committed = λ more. ap (committed_in asked c) (append_assoc h.whole w more) ∙ g.committed (w ++ more) ∙ ap (λ l. done ++ l) (e.committed more)
            ∙ sym (append_assoc done (batch ∷ []) (committed_in asked c more));
      }

      ends : GoesOn h.whole done → EndsAtEnd c.names asked.nodes batch w new → now.now ≡ [] → HasEnded (h.whole ++ w) now.now more_done new
      ends g e none = record {
        ended = e.ended;
        none_kept = e.none_kept;
        none_left = none;
        batches = g.batches w ∙ ap (λ l. done ++ l) e.batches;
      }

      batches_after : 0 < length w → EndsAtCommit c.names asked.nodes batch w new.kept ⊎ EndsAtEnd c.names asked.nodes batch w new →
          (new.ended ≡ true → IsAtEnd next) → GoesOn (h.whole ++ w) more_done ⊎ HasEnded (h.whole ++ w) now.now more_done new
      batches_after some e at_end = elim h.batches [
        | inl g ↦ elim e [
          | inl commit ↦ inl (goes_on g commit)
          | inr last ↦ inr (ends g last (end_of_left next now.now now.left_is (at_end last.ended)))
        ]
        | inr over ↦
            let none : w ≡ [] = none_first w new.kept (sym text_is ∙ none_pending over) in
            absurd (omega (arith, some, ap length none))
      ]

    pub so_far_next : (batch : BatchState) → CutsBatch c.names asked.nodes pending reader new batch → (new.ended ≡ true → IsAtEnd next) → SoFar script next new (done ++ batch ∷ [])
    so_far_next batch cut at_end = record {
      whole = h.whole ++ cut.whole;
      rest = now.now;
      left_is = now.left_is;
      script_is = cut_script batch cut.whole cut.text_is;
      cut_is = cut.cut_is ∙ ap (λ n. n + length cut.whole) h.cut_is ∙ sym (length-append h.whole cut.whole);
      batches = batches_after batch cut.whole cut.text_is cut.some cut.ends at_end;
    }

    -- ---- no batch is left

    module _ (held0 held : Option (List ℕ)) (text : List ℕ) (after : StoreState) (answered : AreAnswered c (first_store c.algebra asked.nodes) done text after)
        (appended : Appends held0 held text) where
      all_batches : HasNoBatch c.names asked.nodes pending reader new → now.now ≡ [] → batches_in asked c script ≡ done
      all_batches none at_end = elim h.batches [
        | inl g ↦ ap (batches_in asked c) (script_now ∙ ap (λ r. h.whole ++ (pending ++ r)) at_end ∙ ap (λ r. h.whole ++ r) (append-nil pending)) ∙ g.batches pending
            ∙ ap (λ l. done ++ l) none.batches ∙ append-nil done
        | inr over ↦ ap (batches_in asked c) (script_now ∙ ap (λ r. h.whole ++ (r ++ now.now)) (none_pending over) ∙ ap (λ r. h.whole ++ r) at_end ∙ append-nil h.whole) ∙ over.batches
      ]

      script_length : length script ≡ reader.cut + (length pending + length now.now)
      script_length = ap length script_now ∙ length-append h.whole (pending ++ now.now) ∙ ap (λ n. length h.whole + n) (length-append pending now.now)
          ∙ ap (λ n. n + (length pending + length now.now)) (sym h.cut_is)

      pub served_whole : HasNoBatch c.names asked.nodes pending reader new → IsAtEnd next → reader.limit ≡ MAX_TEXT → WritesServed asked c script held0 held Done
      served_whole none at_end limit =
          let none_there : now.now ≡ [] = end_of_left next now.now now.left_is at_end in
          record {
            text = text;
            appended = appended;
            serves = (
              omega (arith, script_length, ap length none_there, none.within, limit),
              record {
                after = after;
                answered = subst (λ l. AreAnswered c (first_store c.algebra asked.nodes) l text after) (sym (all_batches none none_there)) answered;
              },
            );
          }

      -- ---- a read failed

      pub given_so_far : reader.ended ≡ false → committed_in asked c pending ≡ [] → WritesGiven asked c script next held0 held
      given_so_far goes none =
          let given : List ℕ = h.whole ++ pending in
          let committed : committed_in asked c given ≡ done = elim h.batches [
            | inl g ↦ g.committed pending ∙ ap (λ l. done ++ l) none ∙ append-nil done
            | inr over ↦ absurd (let e = over.ended in cc)
          ] in
          record {
            given = given;
            consumes = subst (λ l. Consumes (Some script) l given) (sym now.left_is) (script_now ∙ sym (append_assoc h.whole pending now.now));
            text = text;
            appended = appended;
            is_text = record { after = after; answered = subst (λ l. AreAnswered c (first_store c.algebra asked.nodes) l text after) (sym committed) answered };
          }

      -- ---- more than the limit was given

      module _ (limit : reader.limit ≡ MAX_TEXT) (within : reader.cut ≤ MAX_TEXT) (long : MAX_TEXT < reader.cut + length pending) where
        first_bytes : take MAX_TEXT script ≡ h.whole ++ take (reader.limit - reader.cut) pending
        first_bytes =
            let n : length h.whole + (reader.limit - reader.cut) ≡ MAX_TEXT = omega (arith, h.cut_is, limit, within) in
            let few : reader.limit - reader.cut ≤ length pending = omega (arith, limit, within, long) in
            ap (take MAX_TEXT) script_now
            ∙ ap (λ k. take k (h.whole ++ (pending ++ now.now))) (sym n)
            ∙ take-append-add h.whole (pending ++ now.now) (reader.limit - reader.cut)
            ∙ ap (λ l. h.whole ++ l) (take-append-le (reader.limit - reader.cut) pending now.now few)

        pub served_long : committed_in asked c (take (reader.limit - reader.cut) pending) ≡ [] → WritesServed asked c script held0 held TooLong
        served_long none =
            let committed : committed_in asked c (take MAX_TEXT script) ≡ done = elim h.batches [
              | inl g ↦ ap (committed_in asked c) first_bytes ∙ g.committed (take (reader.limit - reader.cut) pending) ∙ ap (λ l. done ++ l) none ∙ append-nil done
              | inr over ↦ absurd (omega (arith, long, within, ap length (none_pending over)))
            ] in
            record {
              text = text;
              appended = appended;
              serves = (
                omega (arith, script_length, long),
                record {
                  after = after;
                  answered = subst (λ l. AreAnswered c (first_store c.algebra asked.nodes) l text after) (sym committed) answered;
                },
              );
            }

  -- ---- memory ran out

  module _ (script : List ℕ) (left : Option (List ℕ)) (reader : ReaderState) (done : List BatchState) (h : SoFar script left reader done) where
    pub record First : Type 0 where
      pub others : List BatchState
      pub batches : batches_in asked c script ≡ done ++ others

    pub first_batches : First
    first_batches = elim h.batches [
      | inl g ↦ record { others = batches_in asked c (reader.kept ++ h.rest); batches = ap (batches_in asked c) h.script_is ∙ g.batches (reader.kept ++ h.rest) }
      | inr over ↦ record {
        others = [];
        batches = ap (batches_in asked c) (h.script_is ∙ ap (λ k. h.whole ++ (k ++ h.rest)) over.none_kept ∙ ap (λ r. h.whole ++ r) over.none_left ∙ append-nil h.whole)
            ∙ over.batches ∙ sym (append-nil done);
      }
    ]

    pub first_written : (held0 held : Option (List ℕ)) (text : List ℕ) (after : StoreState) → AreAnswered c (first_store c.algebra asked.nodes) done text after →
        Appends held0 held text → WritesFirst asked c script held0 held
    first_written held0 held text after answered appended = record {
      first = done;
      others = first_batches.others;
      batches = first_batches.batches;
      text = text;
      appended = appended;
      is_text = record { after = after; answered = answered };
    }

  -- ---- the sink failed

  module _ (script : List ℕ) (left : Option (List ℕ)) (reader : ReaderState) (done : List BatchState) (batch : BatchState) (h : SoFar script left reader (done ++ batch ∷ []))
      (few : length reader.kept < PIECE) (held0 held now : Option (List ℕ)) (text u : List ℕ) (between after : StoreState)
      (answered : AreAnswered c (first_store c.algebra asked.nodes) done text between) (next : IsAnswered c between batch u after)
      (appended : Appends held0 held text) (part : AppendsPart held now u) where
    batches_of_whole : batches_in asked c h.whole ≡ done ++ batch ∷ []
    batches_of_whole = elim h.batches [
      | inl g ↦ ap (batches_in asked c) (sym (append-nil h.whole)) ∙ g.batches [] ∙ append-nil (done ++ batch ∷ [])
      | inr over ↦ over.batches
    ]

    pub part_written : WritesPartOfBatch asked c script left held0 now
    part_written =
        let found = first_batches script left reader (done ++ batch ∷ []) h in
        record {
          whole = h.whole;
          kept = reader.kept;
          consumes = subst (λ l. Consumes (Some script) l (h.whole ++ reader.kept)) (sym h.left_is) (h.script_is ∙ sym (append_assoc h.whole reader.kept h.rest));
          few = few;
          first = done;
          batch = batch;
          others = found.others;
          batches_of_whole = batches_of_whole;
          batches = found.batches;
          written = text;
          between = between;
          answered = answered;
          text = u;
          after = after;
          next = next;
          taken = part.taken;
          within = part.within;
          appended = Appends-trans held0 held now text _ appended part.appended;
        }
