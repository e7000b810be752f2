-- What the closure of a network leaves without the refuted base relations: its scenarios, and the minimal network.
use Rattle.std.proofs.Common.{ℕ, ◌<◌, List, refl, subst, ◌∙◌}
use Rattle.std.specs.Prelude.{slice_index}
use Rattle.calculus_table.specs.Rel.{Has}
use Rattle.calculus_table.specs.Algebra.{Algebra}
use Rattle.calculus_table.specs.Calculus.{IsCalculus, EachBase}
use Rattle.network_words.specs.Edge.{edge_count}
use Rattle.network_words.specs.Network.{IsNetwork}
use Rattle.network_words.specs.Scenario.{IsScenario}
use Rattle.network_words.proofs.Scenarios.{IsScenario-closure}
use Rattle.tract_classes.specs.Class.{HasBase}
use Rattle.minimal_net.specs.declared.label.Label.{Label}
use Rattle.minimal_net.specs.declared.label.Label.TheVariants.{Held, Refuted, Budget}
use Rattle.minimal_net.specs.Labels.{IsLabel, HasAt}
use Rattle.minimal_net.specs.Minimal.{IsRefutedAt, IsOpenAt}
use Rattle.minimal_net.specs.Laws.{LabelledKeepsScenarios, LabelledIsMinimal}
use Rattle.minimal_net.proofs.Labels.{label_true, label_exists}

pub labelled_keeps : LabelledKeepsScenarios
labelled_keeps m n class budget words written relations calculus net bases l = (
  (λ s.
      let own : IsScenario m n l.closure relations =
      (IsScenario-closure m n words l.closure relations calculus net l.is_closure).0 s in
      record {
        length_is = s.length_is;
        below = s.below;
        member = λ e below.
            let r = slice_index relations e in
            (l.each e r below).1 (
              own.member e below,
              λ refuted.
                  let truth = label_true m n class budget words e r (Refuted refuted.0) calculus net bases below in
                  (truth refuted.1).1 relations (record { scenario = s; here = refl }),
            );
        composes = s.composes;
      }),
  (λ s. record {
    length_is = s.length_is;
    below = s.below;
    member = λ e below.
        let r = slice_index relations e in
        (l.is_closure.within.each e).each r ((l.each e r below).0 (s.member e below)).0;
    composes = s.composes;
  }),
)

-- a label that is neither refuted nor open is held
held-of : (m : Algebra) (n : ℕ) (class : List ℕ) (budget : ℕ) (words : List ℕ) (e base : ℕ) → IsCalculus m →
    IsNetwork m n words → EachBase m (HasBase class) → e < edge_count n →
    ¬ IsRefutedAt m n class budget words e base → ¬ IsOpenAt m n class budget words e base → (label : Label) →
    IsLabel m n class budget words e base label → (relations : List ℕ) × HasAt m n words e base relations
held-of m n class budget words e base calculus net bases below not_refuted not_open (Held relations) l =
    (relations, label_true m n class budget words e base (Held relations) calculus net bases below l)
held-of m n class budget words e base calculus net bases below not_refuted not_open (Refuted nodes) l =
    absurd (not_refuted (nodes, l))
held-of m n class budget words e base calculus net bases below not_refuted not_open (Budget nodes) l =
    absurd (not_open (nodes, l))

pub labelled_minimal : LabelledIsMinimal
labelled_minimal m n class budget words written l calculus net is_class bases no_open = record {
  length_is = l.length_is ∙ net.length_is;
  each = λ e base below. (
    (λ has.
        let kept = (l.each e base below).0 has in
        let label = label_exists m n class budget words e base calculus net is_class bases below in
        held-of m n class budget words e base calculus net bases below kept.1 (no_open e base below kept.0)
        label.0 label.1),
    (λ h.
        let own = (labelled_keeps m n class budget words written h.0 calculus net bases l).0 h.1.scenario in
        subst (Has (slice_index written e)) h.1.here (own.member e below)),
  );
}
