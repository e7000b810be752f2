-- A reader that takes bytes piece by piece, and what it answers in the end.
use Rattle.std.proofs.Common.{◌≡◌, ◌⊎◌, ℕ, ◌+◌, ◌-◌, ◌<◌, ◌≤◌, Bool, true, false, List, [], ◌∷◌, ◌++◌, length, take, drop, Option, None, Some, Result, Ok, Err, refl, sym, ap, subst, ◌∙◌, arith, inl, inr, append_assoc}
use Rattle.std.specs.Prelude.{MatchOption, IfOk, IfErr, OnOk, OnErr, nat_lt}
use Rattle.std.proofs.lemmas.Bool.Decides.{nat_tests}
use Rattle.std.specs.Io.KnownBytes.{IsAtEnd}
use Rattle.std.proofs.KnownBytes.{Consumes-trans, Consumes-nil}
use Rattle.std.proofs.Math.Seq.{take-append-add}
use Rattle.std.proofs.lemmas.List.{take-append-drop, take-take, take_all, length-append, length-take-le, length-take, length-drop, append-nil}
use Rattle.qsr_outside.specs.Counts.{Rose}
use Rattle.qsr_outside.specs.declared.reading.ReadStop.{ReadStop}
use Rattle.qsr_outside.specs.declared.reading.ReadStop.TheVariants.{ReadFault, TooLong, Memory}
use Rattle.session_scripts.specs.Batches.{BatchState}
use Rattle.session_scripts.specs.Scripts.{batches_of, committed_of}
use Rattle.session_scripts.specs.Readings.{IsRead, IsCommitted}
use Rattle.session_scripts.specs.Readers.{ReaderState, given_to, TakesBytes, ReadsNext, IsNext, stop_of}
use Rattle.session_scripts.specs.declared.reading.Reading.{Reading}
use Rattle.session_scripts.proofs.Readings.{IsRead-append}

-- ---- pieces, one after another

pub TakesBytes-none : (s : ReaderState) (left : Option (List ℕ)) (given : ℕ) → TakesBytes s s left left given given
TakesBytes-none s left given = record {
  taken = [];
  consumes = Consumes-nil left;
  counts = record { never_fell = omega arith; at_most = omega arith; at_least = omega arith };
  kept_is = sym (append-nil s.kept);
  cut_stays = refl;
  limit_stays = refl;
  end_is_met = λ going end. cc;
  end_stays = λ end. end;
  waits = λ end. refl;
}

met : (a b c : ReaderState) (l m r : Option (List ℕ)) (f g h : ℕ) (ended : Bool) → b.ended ≡ ended → TakesBytes a b l m f g → TakesBytes b c m r g h → a.ended ≡ false → c.ended ≡ true → IsAtEnd r
met a b c l m r f g h true e x y going end = subst IsAtEnd (sym (y.waits e)) (x.end_is_met going e)
met a b c l m r f g h false e x y going end = y.end_is_met e end

pub TakesBytes-trans : (a b c : ReaderState) (l m r : Option (List ℕ)) (f g h : ℕ) → TakesBytes a b l m f g → TakesBytes b c m r g h → TakesBytes a c l r f h
TakesBytes-trans a b c l m r f g h x y =
    let long : length (x.taken ++ y.taken) ≡ length x.taken + length y.taken = length-append x.taken y.taken in
    record {
      taken = x.taken ++ y.taken;
      consumes = Consumes-trans l m r x.taken y.taken x.consumes y.consumes;
      counts = record {
        never_fell = omega (arith, x.counts, y.counts);
        at_most = omega (arith, x.counts, y.counts);
        at_least = omega (arith, x.counts, y.counts);
      };
      kept_is = y.kept_is ∙ ap (λ bytes. bytes ++ y.taken) x.kept_is ∙ append_assoc a.kept x.taken y.taken;
      cut_stays = y.cut_stays ∙ x.cut_stays;
      limit_stays = y.limit_stays ∙ x.limit_stays;
      end_is_met = λ going end. met a b c l m r f g h b.ended refl x y going end;
      end_stays = λ end. y.end_stays (x.end_stays end);
      waits = λ end. y.waits (x.end_stays end) ∙ x.waits end;
    }

-- the bytes within the limit, after more were taken, are those that were read, and more
pub IsRead-more : (bases : List (List ℕ)) (n room : ℕ) (kept taken : List ℕ) (r : Reading) → IsRead bases n (take room kept) r → length kept ≤ room → IsRead bases n (take room (kept ++ taken)) r
IsRead-more bases n room kept taken r k fits =
    let whole : take room kept ≡ kept = take_all room kept fits in
    let split : room ≡ length kept + (room - length kept) = omega arith in
    let is : take room (kept ++ taken) ≡ kept ++ take (room - length kept) taken =
    ap (λ k. take k (kept ++ taken)) split ∙ take-append-add kept taken (room - length kept) in
    subst (λ text. IsRead bases n text r) (sym is) (IsRead-append bases n kept (take (room - length kept) taken) r (subst (λ text. IsRead bases n text r) whole k))

-- ---- answers

-- the reader stops
pub ReadsNext-stop : (bases : List (List ℕ)) (n : ℕ) (old new : ReaderState) (l r : Option (List ℕ)) (f g faults_old faults_new : ℕ) (stop : ReadStop) → TakesBytes old new l r f g →
    (stop ≡ ReadFault → Rose faults_old faults_new) → (stop ≡ ReadFault → committed_of bases n new.kept ≡ []) → (stop ≡ ReadFault → given_to new ≤ old.limit) →
    (stop ≡ TooLong → old.limit < given_to new) → (stop ≡ TooLong → committed_of bases n (take (old.limit - old.cut) new.kept) ≡ []) →
    (stop ≡ ReadFault) ⊎ (faults_new ≡ faults_old) →
    ReadsNext bases n (record old { stop = None }) (record new { stop = Some stop }) l r f g faults_old faults_new (Err stop)
ReadsNext-stop bases n old new l r f g faults_old faults_new stop x rose whole within long left told =
    let kept_long : length new.kept ≡ length old.kept + length x.taken = ap length x.kept_is ∙ length-append old.kept x.taken in
    record {
      taken = x.taken;
      consumes = x.consumes;
      counts = x.counts;
      given_is = omega (arith, x.cut_stays, kept_long);
      limit_stays = x.limit_stays;
      next = tt;
      stop_is = refl;
      end_is_met = x.end_is_met;
      end_stays = x.end_stays;
      read_fault = λ e. rose (cc);
      whole_before_fault = λ e. ap (committed_of bases n) (sym x.kept_is) ∙ whole (cc);
      within_before_fault = λ e. within (cc);
      too_long = λ e. long (cc);
      whole_before_long = λ e. ap (λ text. committed_of bases n (take (old.limit - old.cut) text)) (sym x.kept_is) ∙ left (cc);
      faults_are_told = elim told [ inl e ↦ inl (ap Err e) | inr e ↦ inr e ];
    }

-- a line `commit` was given
pub ReadsNext-commit : (bases : List (List ℕ)) (n : ℕ) (old mid new : ReaderState) (l r : Option (List ℕ)) (f g faults_old faults_new : ℕ) (reading : Reading) → TakesBytes old mid l r f g →
    faults_new ≡ faults_old → IsCommitted bases n (take (mid.limit - mid.cut) mid.kept) reading → length mid.kept < reading.from + 4096 →
    new ≡ record mid { cut = mid.cut + reading.from; kept = drop reading.from mid.kept } →
    ReadsNext bases n (record old { stop = None }) (record new { stop = None }) l r f g faults_old faults_new (Ok (Some reading.batch))
ReadsNext-commit bases n old mid new l r f g faults_old faults_new reading x same k near is =
    let room = mid.limit - mid.cut in
    let inside : reading.from ≤ room = omega (arith, k.within, length-take room mid.kept) in
    let kept : reading.from ≤ length mid.kept = omega (arith, k.within, length-take room mid.kept) in
    let whole = take reading.from mid.kept in
    let whole_is : take reading.from (take room mid.kept) ≡ whole = take-take reading.from room mid.kept inside in
    let whole_long : length whole ≡ reading.from = length-take-le reading.from mid.kept kept in
    let all_long : length mid.kept ≡ length old.kept + length x.taken = ap length x.kept_is ∙ length-append old.kept x.taken in
    let left_long : length (drop reading.from mid.kept) + reading.from ≡ length mid.kept = omega (arith, length-drop reading.from mid.kept) in
    let new_kept : new.kept ≡ drop reading.from mid.kept = ap (λ s. s.kept) is in
    let new_cut : new.cut ≡ mid.cut + reading.from = ap (λ s. s.cut) is in
    let new_limit : new.limit ≡ mid.limit = ap (λ s. s.limit) is in
    let new_ended : new.ended ≡ mid.ended = ap (λ s. s.ended) is in
    let new_long : length new.kept ≡ length (drop reading.from mid.kept) = ap length new_kept in
    record {
      taken = x.taken;
      consumes = x.consumes;
      counts = x.counts;
      given_is = omega (arith, x.cut_stays, all_long, left_long, new_long, new_cut);
      limit_stays = new_limit ∙ x.limit_stays;
      next = record {
        whole = whole;
        some = omega (arith, whole_long, k.some);
        text_is = sym x.kept_is ∙ sym (take-append-drop reading.from mid.kept) ∙ ap (λ bytes. whole ++ bytes) (sym new_kept);
        cut_is = omega (arith, new_cut, x.cut_stays, whole_long);
        within = omega (arith, new_cut, x.limit_stays, inside, k.some);
        ends = inl (record {
          batches = λ rest. ap (λ bytes. batches_of bases n (bytes ++ rest)) (sym whole_is) ∙ k.batches rest;
          committed = λ rest. ap (λ bytes. committed_of bases n (bytes ++ rest)) (sym whole_is) ∙ k.committed rest;
          few = omega (arith, new_long, left_long, near);
        });
      };
      stop_is = refl;
      end_is_met = λ going end. x.end_is_met going (sym new_ended ∙ end);
      end_stays = λ end. new_ended ∙ x.end_stays end;
      read_fault = λ e. absurd (cc);
      whole_before_fault = λ e. absurd (cc);
      within_before_fault = λ e. absurd (cc);
      too_long = λ e. absurd (cc);
      whole_before_long = λ e. absurd (cc);
      faults_are_told = inr same;
    }

some_of_batch : (bases : List (List ℕ)) (n : ℕ) (text : List ℕ) (batch : BatchState) → batches_of bases n text ≡ batch ∷ [] → 0 < length text
some_of_batch bases n [] batch e = absurd (cc)
some_of_batch bases n (b ∷ bs) batch e = omega arith

next_at_end : (bases : List (List ℕ)) (n : ℕ) (text : List ℕ) (old new : ReaderState) (found : Option BatchState) → MatchOption found (batches_of bases n text ≡ []) (λ batch. batches_of bases n text ≡ batch ∷ []) →
    new.cut ≡ old.cut + length text → new.cut ≤ old.limit → new.kept ≡ [] → new.ended ≡ true → IsNext bases n text old new found
next_at_end bases n text old new None none cut within kept end = record { batches = none; ended = end; within = omega (arith, cut, within) }
next_at_end bases n text old new (Some batch) one cut within kept end = record {
  whole = text;
  some = some_of_batch bases n text batch one;
  text_is = sym (append-nil text) ∙ ap (λ bytes. text ++ bytes) (sym kept);
  cut_is = cut;
  within = within;
  ends = inr (record { batches = one; none_kept = kept; ended = end });
}

-- the input has ended
pub ReadsNext-end : (bases : List (List ℕ)) (n : ℕ) (old mid new : ReaderState) (l r : Option (List ℕ)) (f g faults_old faults_new : ℕ) (found : Option BatchState) → TakesBytes old mid l r f g →
    faults_new ≡ faults_old → mid.ended ≡ true → given_to mid ≤ mid.limit → new ≡ record mid { cut = given_to mid; kept = [] } →
    MatchOption found (batches_of bases n mid.kept ≡ []) (λ batch. batches_of bases n mid.kept ≡ batch ∷ []) →
    ReadsNext bases n (record old { stop = None }) (record new { stop = None }) l r f g faults_old faults_new (Ok found)
ReadsNext-end bases n old mid new l r f g faults_old faults_new found x same end within is batches =
    let text = old.kept ++ x.taken in
    let long : length text ≡ length old.kept + length x.taken = length-append old.kept x.taken in
    let all_long : length mid.kept ≡ length text = ap length x.kept_is in
    let new_kept : new.kept ≡ [] = ap (λ s. s.kept) is in
    let new_cut : new.cut ≡ given_to mid = ap (λ s. s.cut) is in
    let new_limit : new.limit ≡ mid.limit = ap (λ s. s.limit) is in
    let new_ended : new.ended ≡ true = ap (λ s. s.ended) is ∙ end in
    let none_kept : length new.kept ≡ 0 = ap length new_kept in
    let at_end : MatchOption found (batches_of bases n text ≡ []) (λ batch. batches_of bases n text ≡ batch ∷ []) =
    subst (λ bytes. MatchOption found (batches_of bases n bytes ≡ []) (λ batch. batches_of bases n bytes ≡ batch ∷ [])) x.kept_is batches in
    record {
      taken = x.taken;
      consumes = x.consumes;
      counts = x.counts;
      given_is = omega (arith, x.cut_stays, all_long, long, new_cut, none_kept);
      limit_stays = new_limit ∙ x.limit_stays;
      next = next_at_end bases n text (record old { stop = None }) (record new { stop = None }) found at_end
          (omega (arith, new_cut, x.cut_stays, all_long)) (omega (arith, new_cut, x.limit_stays, within)) new_kept new_ended;
      stop_is = refl;
      end_is_met = λ going stays. x.end_is_met going end;
      end_stays = λ stays. new_ended;
      read_fault = λ e. absurd (cc);
      whole_before_fault = λ e. absurd (cc);
      within_before_fault = λ e. absurd (cc);
      too_long = λ e. absurd (cc);
      whole_before_long = λ e. absurd (cc);
      faults_are_told = inr same;
    }

-- memory ran out
pub ReadsNext-memory : (bases : List (List ℕ)) (n : ℕ) (old new : ReaderState) (l r : Option (List ℕ)) (f g faults_old faults_new : ℕ) (stop : ReadStop) → TakesBytes old new l r f g → faults_new ≡ faults_old →
    stop ≡ Memory → ReadsNext bases n (record old { stop = None }) (record new { stop = Some stop }) l r f g faults_old faults_new (Err stop)
ReadsNext-memory bases n old new l r f g faults_old faults_new stop x same is =
    ReadsNext-stop bases n old new l r f g faults_old faults_new stop x (λ e. absurd (cc)) (λ e. absurd (cc)) (λ e. absurd (cc)) (λ e. absurd (cc)) (λ e. absurd (cc)) (inr same)

-- more than the limit was given
pub ReadsNext-long : (bases : List (List ℕ)) (n : ℕ) (old new : ReaderState) (l r : Option (List ℕ)) (f g faults_old faults_new : ℕ) → TakesBytes old new l r f g → faults_new ≡ faults_old →
    new.limit < given_to new → committed_of bases n (take (new.limit - new.cut) new.kept) ≡ [] →
    ReadsNext bases n (record old { stop = None }) (record new { stop = Some TooLong }) l r f g faults_old faults_new (Err TooLong)
ReadsNext-long bases n old new l r f g faults_old faults_new x same above none =
    let room : old.limit - old.cut ≡ new.limit - new.cut = omega (arith, x.limit_stays, x.cut_stays) in
    ReadsNext-stop bases n old new l r f g faults_old faults_new TooLong x (λ e. absurd (cc)) (λ e. absurd (cc)) (λ e. absurd (cc))
    (λ e. omega (arith, x.limit_stays, above)) (λ e. ap (λ k. committed_of bases n (take k new.kept)) room ∙ none) (inr same)

-- the read of a piece failed, or there was no room for it
pub ReadsNext-failed : (bases : List (List ℕ)) (n : ℕ) (old mid new : ReaderState) (l m r : Option (List ℕ)) (f g h faults_old faults_mid faults_new : ℕ) (stop : ReadStop) (result : Result (Option BatchState) ReadStop) →
    result ≡ Err stop → TakesBytes old mid l m f g → TakesBytes mid new m r g h → new ≡ mid → faults_mid ≡ faults_old → given_to mid ≤ mid.limit → committed_of bases n mid.kept ≡ [] →
    (stop ≡ ReadFault → Rose faults_mid faults_new) → (stop ≡ TooLong → ⊥) → (stop ≡ ReadFault) ⊎ (faults_new ≡ faults_mid) →
    ReadsNext bases n (record old { stop = None }) (record new { stop = stop_of result }) l r f h faults_old faults_new result
ReadsNext-failed bases n old mid new l m r f g h faults_old faults_mid faults_new stop result e x y stays same within none rose not_long told =
    let limit : new.limit ≡ old.limit = y.limit_stays ∙ x.limit_stays in
    let kept : new.kept ≡ mid.kept = ap (λ s. s.kept) stays in
    let long : length new.kept ≡ length mid.kept = ap length kept in
    let above : given_to new ≤ old.limit = omega (arith, y.cut_stays, x.limit_stays, long, within) in
    let faults : (stop ≡ ReadFault) ⊎ (faults_new ≡ faults_old) = elim told [ inl is ↦ inl is | inr is ↦ inr (is ∙ same) ] in
    subst (λ (answer : Result (Option BatchState) ReadStop). ReadsNext bases n (record old { stop = None }) (record new { stop = stop_of answer }) l r f h faults_old faults_new answer) (sym e)
    (ReadsNext-stop bases n old new l r f h faults_old faults_new stop (TakesBytes-trans old mid new l m r f g h x y)
    (λ is. subst (λ k. Rose k faults_new) same (rose is)) (λ is. ap (committed_of bases n) kept ∙ none) (λ is. above)
    (λ is. absurd (not_long is)) (λ is. absurd (not_long is)) faults)

-- the last batch was asked for
pub ReadsNext-last : (bases : List (List ℕ)) (n : ℕ) (old mid new : ReaderState) (l r : Option (List ℕ)) (f g faults_old faults_new : ℕ) (result : Result (Option BatchState) ReadStop) → TakesBytes old mid l r f g →
    faults_new ≡ faults_old → mid.ended ≡ true → given_to mid ≤ mid.limit → OnOk result (new ≡ record mid { cut = given_to mid; kept = [] }) →
    IfOk result (λ found. MatchOption found (batches_of bases n mid.kept ≡ []) (λ batch. batches_of bases n mid.kept ≡ batch ∷ [])) →
    IfErr result (λ stop. stop ≡ Memory) → OnErr result (new ≡ mid) →
    ReadsNext bases n (record old { stop = None }) (record new { stop = stop_of result }) l r f g faults_old faults_new result
ReadsNext-last bases n old mid new l r f g faults_old faults_new (Ok found) x same end within cut batches memory stays =
    ReadsNext-end bases n old mid new l r f g faults_old faults_new found x same end within cut batches
ReadsNext-last bases n old mid new l r f g faults_old faults_new (Err stop) x same end within cut batches memory stays =
    ReadsNext-memory bases n old new l r f g faults_old faults_new stop (subst (λ (s : ReaderState). TakesBytes old s l r f g) (sym stays) x) same memory

pub none_kept : (mid new : ReaderState) (result : Result (Option BatchState) ReadStop) → OnOk result (new ≡ record mid { cut = given_to mid; kept = [] }) → OnOk result (length new.kept < 4096)
none_kept mid new (Ok found) is =
    let none : length new.kept ≡ 0 = ap (λ s. length s.kept) is in
    omega arith
none_kept mid new (Err stop) is = tt

-- the bytes within the limit, after more were taken
pub IsRead-taken : (bases : List (List ℕ)) (n : ℕ) (mid new : ReaderState) (l r : Option (List ℕ)) (f g : ℕ) (reading : Reading) → TakesBytes mid new l r f g → given_to mid ≤ mid.limit →
    IsRead bases n (take (mid.limit - mid.cut) mid.kept) reading → IsRead bases n (take (new.limit - new.cut) new.kept) reading
IsRead-taken bases n mid new l r f g reading x within k =
    let room : new.limit - new.cut ≡ mid.limit - mid.cut = omega (arith, x.limit_stays, x.cut_stays) in
    let is : take (new.limit - new.cut) new.kept ≡ take (mid.limit - mid.cut) (mid.kept ++ x.taken) =
    ap (λ k. take k new.kept) room ∙ ap (take (mid.limit - mid.cut)) x.kept_is in
    subst (λ text. IsRead bases n text reading) (sym is) (IsRead-more bases n (mid.limit - mid.cut) mid.kept x.taken reading k (omega (arith, within)))

-- within the limit no byte is left out
pub all_within : (s : ReaderState) → given_to s ≤ s.limit → take (s.limit - s.cut) s.kept ≡ s.kept
all_within s within = take_all (s.limit - s.cut) s.kept (omega (arith, within))

pub not_above : (a b : ℕ) (test : Bool) → test ≡ nat_lt a b → test ≡ false → b ≤ a
not_above a b test e f = grind (arith, nat_tests)

pub is_above : (a b : ℕ) (test : Bool) → test ≡ nat_lt a b → test ≡ true → a < b
is_above a b test e f = grind (arith, nat_tests)
