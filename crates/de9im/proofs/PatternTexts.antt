-- One more byte of a pattern.
use Rattle.std.proofs.Common.{◌≡◌, ℕ, ◌+◌, ◌<◌, ◌∙◌, sym, ap, subst, arith, inl, inr, List, length, Some}
use Rattle.std.specs.Prelude.{slice_index, slice_set}
use Rattle.std.proofs.lemmas.Bool.{cases_lt}
use Rattle.std.proofs.lemmas.List.{get_or-set_same, get_or-set_other, length-set}
use Rattle.de9im.specs.declared.patterns.Want.{Want}
use Rattle.de9im.specs.Patterns.{want_of, want_at, IsReadTo}

pub read_more : (text : List ℕ) (ws : List Want) (k : ℕ) (w : Want) → k < 9 → k < length text → want_of (slice_index text k) ≡ Some w → IsReadTo text ws k → IsReadTo text (slice_set ws k w) (k + 1)
read_more text ws k w b l e h =
    let n = h.nine in
    record {
      within = omega arith;
      nine = length-set ws k w ∙ n;
      each = λ j c. elim (cases_lt j k) [
        | inl x ↦ h.each j x ∙ ap Some (sym (get_or-set_other ws k j w _ (λ i. absurd (omega arith))))
        | inr x ↦ (let i : j ≡ k = omega arith in
            subst (λ m. want_of (slice_index text m) ≡ Some (want_at (slice_set ws k w) m)) (sym i) (e ∙ ap Some (sym (get_or-set_same ws k w _ (omega arith)))))
      ];
    }
