-- A network that is left the base relations of a scenario, edge by edge.
use Rattle.std.proofs.Common.{◌≡◌, ℕ, ◌+◌, ◌^◌, ◌<◌, ◌≤◌, List, length, slice_index, slice_index_or, slice_set}
use Rattle.std.proofs.Common.{sym, ap, ◌∙◌, arith, inl, inr}
use Rattle.std.proofs.lemmas.Bool.{cases_eq}
use Rattle.std.proofs.lemmas.Grind.{same_number_lists, get_or-set_at}
use Rattle.std.proofs.lemmas.List.{get_or-map, get_or-set_other, get_or_default, length-map}
use Rattle.network_words.specs.Scenario.{as_network}

-- a place within a list has one value, whatever stands for the places past its end
pub value_at : (xs ys : List ℕ) (i a : ℕ) → xs ≡ ys → i < length ys → a ≡ slice_index_or xs i a →
    a ≡ slice_index ys i
value_at xs ys i a same below is = is ∙ ap (λ zs. slice_index_or zs i a) same ∙ get_or_default ys i a 0 below

module _ (scenario : List ℕ) where
  -- each edge before this one has its base relation alone
  abbrev pub IsAtomicBefore : List ℕ → ℕ → Type 0
  IsAtomicBefore words edge = (e : ℕ) → e < edge → slice_index words e ≡ 2 ^ slice_index scenario e

  pub one_more : (words : List ℕ) (edge a : ℕ) → edge < length words → a ≡ 2 ^ slice_index scenario edge →
      IsAtomicBefore words edge → IsAtomicBefore (slice_set words edge a) (edge + 1)
  one_more words edge a below is before e h = elim (cases_eq e edge) [
    | inl same ↦ get_or-set_at words edge e a 0 same below ∙ is ∙ ap (λ d. 2 ^ slice_index scenario d) (sym same)
    | inr differ ↦ get_or-set_other words edge e a 0 differ ∙ before e (omega arith)
  ]

  pub all_edges : (words : List ℕ) (edge : ℕ) → length words ≡ length scenario → length scenario ≤ edge →
      IsAtomicBefore words edge → words ≡ as_network scenario
  all_edges words edge same whole before =
      same_number_lists words (as_network scenario) (omega (arith, length-map scenario (λ r. 2 ^ r)))
      (λ k b. before k (omega arith) ∙ sym (get_or-map (λ r. 2 ^ r) scenario k 0 0 (omega arith)))
