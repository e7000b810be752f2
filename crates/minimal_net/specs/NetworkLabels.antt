-- The labels of all base relations of a closed network, edge by edge.
use Rattle.std.specs.Prelude.{◌≡◌, ℕ, ◌+◌, ◌<◌, ◌↔◌, ◌⊎◌, List, [], ◌∷◌, length, map, slice_index, slice_index_or}
use Rattle.std.specs.Prelude.{bit_or, count_ones}
use Rattle.calculus_table.specs.Rel.{Has}
use Rattle.calculus_table.specs.Algebra.{Algebra}
use Rattle.network_words.specs.Edge.{edge_count}
use Rattle.minimal_net.specs.declared.label.Label.{Label}
use Rattle.minimal_net.specs.declared.label.Label.TheVariants as label
use Rattle.minimal_net.specs.declared.outcome.Outcome.{Outcome}
use Rattle.minimal_net.specs.declared.outcome.Outcome.TheVariants.{Held, Refuted, Open}
use Rattle.minimal_net.specs.declared.edge_labels.EdgeLabels.{EdgeLabels}
use Rattle.minimal_net.specs.Labels.{IsLabel}

-- ---- a label without its scenario and its tree

abbrev pub outcome_of : Label → Outcome
outcome_of (label.Held relations) = Held
outcome_of (label.Refuted nodes) = Refuted
outcome_of (label.Budget nodes) = Open

-- the outcome of a base relation at an edge is that of its label
pub record IsOutcome (m : Algebra) (n : ℕ) (class : List ℕ) (budget : ℕ) (words : List ℕ) (e base : ℕ)
    (outcome : Outcome) : Type 0 where
  pub label : Label
  pub is_label : IsLabel m n class budget words e base label
  pub is : outcome ≡ outcome_of label

-- ---- the labels of an edge

abbrev pub no_labels : EdgeLabels
no_labels = record { held = 0; refuted = 0; undecided = 0 }

-- those with an outcome; and those that aren't refuted
abbrev pub with_outcome : Outcome → EdgeLabels → ℕ
with_outcome Held labels = labels.held
with_outcome Refuted labels = labels.refuted
with_outcome Open labels = labels.undecided

abbrev pub left_in : EdgeLabels → ℕ
left_in labels = bit_or labels.held labels.undecided

-- a base relation is put into the set of its outcome
pub record IsPut (base : ℕ) (outcome : Outcome) (old new : EdgeLabels) : Type 0 where
  pub here : Has (with_outcome outcome new) base
  pub kept : (other : Outcome) (r : ℕ) → Has (with_outcome other old) r → Has (with_outcome other new) r
  pub rest : (other : Outcome) (r : ℕ) → Has (with_outcome other new) r → Has (with_outcome other old) r ⊎ ((r ≡ base) × (other ≡ outcome))

-- each base relation of the set is in the set of its outcome, and no other is in one
pub record AreEdgeLabels (m : Algebra) (n : ℕ) (class : List ℕ) (budget : ℕ) (words : List ℕ) (e set : ℕ)
    (labels : EdgeLabels) : Type 0 where
  pub each : (outcome : Outcome) (base : ℕ) →
      Has (with_outcome outcome labels) base ↔ (Has set base × IsOutcome m n class budget words e base outcome)

-- ---- the labels of a network

-- those of an edge
abbrev pub labels_at : List EdgeLabels → ℕ → EdgeLabels
labels_at labels e = slice_index_or labels e no_labels

-- the labels of each edge, for the base relations of its set in the closure
pub record AreLabels (m : Algebra) (n : ℕ) (class : List ℕ) (budget : ℕ) (words closure : List ℕ)
    (labels : List EdgeLabels) : Type 0 where
  pub length_is : length labels ≡ edge_count n
  pub each : (e : ℕ) → e < edge_count n →
      AreEdgeLabels m n class budget words e (slice_index closure e) (labels_at labels e)

-- how many labels have an outcome
abbrev pub count_of : Outcome → List EdgeLabels → ℕ
count_of outcome [] = 0
count_of outcome (l ∷ labels) = count_ones (with_outcome outcome l) + count_of outcome labels

-- the closure without the refuted base relations
abbrev pub left_of : List EdgeLabels → List ℕ
left_of labels = map left_in labels
