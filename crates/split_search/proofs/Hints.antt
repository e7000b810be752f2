-- Networks that are only hints: what they are made of is sets of the calculus.
use Rattle.std.proofs.Common.{ℕ, ◌<◌, ◌≤◌, List, replicate, sym, ◌∙◌, subst, inl, inr}
use Rattle.std.specs.Prelude.{slice_index, slice_set, bit_and}
use Rattle.std.proofs.lemmas.Bool.{cases_eq, cases_lt}
use Rattle.std.proofs.lemmas.List.{get_or-set_same, get_or-set_other, get_or-replicate, get_or_past, length-set}
use Rattle.std.proofs.lemmas.List.{length-replicate}
use Rattle.calculus_table.specs.Rel.{IsWithin}
use Rattle.calculus_table.specs.Algebra.{Algebra}
use Rattle.calculus_table.specs.Composition.{full_of}
use Rattle.calculus_table.proofs.Sets.{IsWithin-refl, IsWithin-empty, IsWithin-meet_r}
use Rattle.network_words.specs.Edge.{edge_count}
use Rattle.network_words.specs.Network.{IsNetwork}

pub full-network : (m : Algebra) (n : ℕ) → IsNetwork m n (replicate (edge_count n) (full_of m))
full-network m n = record {
  length_is = length-replicate (edge_count n) (full_of m);
  within = λ e. elim (cases_lt e (edge_count n)) [
    | inl below ↦ subst (λ x. IsWithin x (full_of m)) (sym (get_or-replicate (edge_count n) e (full_of m) 0 below))
        (IsWithin-refl (full_of m))
    | inr past ↦ subst (λ x. IsWithin x (full_of m))
        (sym (get_or_past (replicate (edge_count n) (full_of m)) e 0
        (subst (λ k. k ≤ e) (sym (length-replicate (edge_count n) (full_of m))) past))) (IsWithin-empty (full_of m))
  ];
}

pub met-network : (m : Algebra) (n : ℕ) (words : List ℕ) (e a : ℕ) → e < edge_count n → IsNetwork m n words →
    IsNetwork m n (slice_set words e (bit_and a (full_of m)))
met-network m n words e a below net = record {
  length_is = length-set words e (bit_and a (full_of m)) ∙ net.length_is;
  within = λ d. elim (cases_eq d e) [
    | inl same ↦ subst (λ k. IsWithin (slice_index (slice_set words e (bit_and a (full_of m))) k) (full_of m))
        (sym same)
        (subst (λ x. IsWithin x (full_of m))
        (sym (get_or-set_same words e (bit_and a (full_of m)) 0 (subst (λ k. e < k) (sym net.length_is) below)))
        (IsWithin-meet_r a (full_of m)))
    | inr other ↦ subst (λ x. IsWithin x (full_of m)) (sym (get_or-set_other words e d (bit_and a (full_of m)) 0 other))
        (net.within d)
  ];
}
