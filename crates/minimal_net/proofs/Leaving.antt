-- The sets of the first edges are left without the refuted base relations.
use Rattle.std.proofs.Common.{◌≡◌, ℕ, ◌+◌, ◌<◌, List, length, refl, sym, ap, ◌∙◌, arith, inl, inr}
use Rattle.std.specs.Prelude.{slice_index, slice_set}
use Rattle.std.proofs.lemmas.Bool.{cases_eq}
use Rattle.std.proofs.lemmas.Grind.{same_number_lists}
use Rattle.std.proofs.lemmas.List.{length-map, length-set, get_or-map, get_or-set_same, get_or-set_other}
use Rattle.network_words.specs.Network.{Network}
use Rattle.minimal_net.specs.declared.edge_labels.EdgeLabels.{EdgeLabels}
use Rattle.minimal_net.specs.NetworkLabels.{no_labels, left_in, labels_at, left_of}

pub record IsLeftTo (labels : List EdgeLabels) (count : ℕ) (old new : Network) : Type 0 where
  pub rest : new ≡ record old { words = new.words }
  pub length_is : length new.words ≡ length old.words
  pub each : (e : ℕ) → e < count → slice_index new.words e ≡ left_in (labels_at labels e)

pub left-none : (labels : List EdgeLabels) (net : Network) → IsLeftTo labels 0 net net
left-none labels net = record { rest = refl; length_is = refl; each = λ e below. absurd (omega arith) }

pub left-more : (labels : List EdgeLabels) (count left : ℕ) (old net new : Network) → IsLeftTo labels count old net →
    count < length old.words → left ≡ left_in (labels_at labels count) →
    new ≡ record net { words = slice_set net.words count left } → IsLeftTo labels (count + 1) old new
left-more labels count left old net new are below is made =
    let words : new.words ≡ slice_set net.words count left = ap (λ (x : Network). x.words) made in
    let own : count < length net.words = omega (arith, below, are.length_is) in
    record {
      rest = made ∙ ap (λ (x : Network). record x { words = slice_set net.words count left }) are.rest
          ∙ ap (λ ws. record old { words = ws }) (sym words);
      length_is = ap length words ∙ length-set net.words count left ∙ are.length_is;
      each = λ e low. ap (λ ws. slice_index ws e) words ∙ elim (cases_eq e count) [
        | inl same ↦ ap (slice_index (slice_set net.words count left)) same ∙ get_or-set_same net.words count left 0 own
            ∙ is ∙ ap (λ k. left_in (labels_at labels k)) (sym same)
        | inr apart ↦ get_or-set_other net.words count e left 0 apart ∙ are.each e (omega (arith, low, apart))
      ];
    }

pub left-whole : (labels : List EdgeLabels) (old new : Network) → IsLeftTo labels (length labels) old new →
    length old.words ≡ length labels → new ≡ record old { words = left_of labels }
left-whole labels old new are long =
    let same : new.words ≡ left_of labels = same_number_lists new.words (left_of labels)
    (are.length_is ∙ long ∙ sym (length-map labels left_in)) (λ k below.
    let own : k < length labels = omega (arith, below, are.length_is, long) in
    are.each k own ∙ sym (get_or-map left_in labels k no_labels 0 own)) in
    are.rest ∙ ap (λ ws. record old { words = ws }) same
