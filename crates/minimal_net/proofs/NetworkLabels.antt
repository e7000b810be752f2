-- The labels of a network: one list of them, what they leave, and the minimal network where none is open.
use Rattle.std.proofs.Common.{◌≡◌, ℕ, zero, suc, ◌<◌, ◌≤◌, ◌↔◌, List, [], ◌∷◌, length, refl, sym, ap, ◌∙◌, subst}
use Rattle.std.proofs.Common.{arith, ◌⊎◌, inl, inr}
use Rattle.std.specs.Prelude.{slice_index, count_ones}
use Rattle.std.specs.Int.{bit_at}
use Rattle.std.proofs.lemmas.Bool.{cases_eq}
use Rattle.std.proofs.lemmas.List.{length-map, get_or-map, same_lists}
use Rattle.calculus_table.specs.Rel.{Has}
use Rattle.calculus_table.specs.Algebra.{Algebra}
use Rattle.calculus_table.specs.Calculus.{IsCalculus, EachBase}
use Rattle.calculus_table.proofs.Sets.{Has-union_l, Has-union_r, Has-union, not_Has-empty}
use Rattle.calculus_table.proofs.Members.{full-member}
use Rattle.network_words.specs.Edge.{edge_count}
use Rattle.network_words.specs.Network.{IsNetwork}
use Rattle.network_words.specs.Closure.{IsClosure}
use Rattle.tract_classes.specs.Class.{IsClass, HasBase}
use Rattle.split_search.proofs.Networks.{closure-network}
use Rattle.split_search.proofs.Products.{count-some}
use Rattle.minimal_net.specs.declared.label.Label.{Label}
use Rattle.minimal_net.specs.declared.label.Label.TheVariants as label
use Rattle.minimal_net.specs.declared.outcome.Outcome.{Outcome}
use Rattle.minimal_net.specs.declared.outcome.Outcome.TheVariants.{Held, Refuted, Open}
use Rattle.minimal_net.specs.declared.edge_labels.EdgeLabels.{EdgeLabels}
use Rattle.minimal_net.specs.Labels.{IsLabel}
use Rattle.minimal_net.specs.Minimal.{IsRefutedAt}
use Rattle.minimal_net.specs.NetworkLabels.{outcome_of, IsOutcome, no_labels, with_outcome, left_in, AreEdgeLabels}
use Rattle.minimal_net.specs.NetworkLabels.{labels_at, count_of, left_of}
use Rattle.minimal_net.specs.Laws.{LabelsAreOne, LabelsExist, LabelsOfClosure, LabelsLeave, LabelsAreMinimal}
use Rattle.minimal_net.proofs.Closures.{label_of_closure}
use Rattle.minimal_net.proofs.Labels.{label_one, label_exists}
use Rattle.minimal_net.proofs.Labelled.{labelled_minimal}
use Rattle.minimal_net.proofs.Counting.{labels_at-any}
use Rattle.minimal_net.proofs.LabelsOfEdges.{edge-labels-one, some_labels_below, labels-all}

pub labels_one : LabelsAreOne
labels_one m n class budget words closure ks ls own other =
    same_lists ks ls (own.length_is ∙ sym other.length_is) (λ e d below.
    let there : e < edge_count n = subst (λ k. e < k) own.length_is below in
    let same : labels_at ks e ≡ labels_at ls e =
    edge-labels-one m n class budget words e (slice_index closure e) (labels_at ks e) (labels_at ls e)
    (own.each e there) (other.each e there) in
    labels_at-any ks e d below ∙ same
    ∙ sym (labels_at-any ls e d (subst (λ k. e < k) (sym other.length_is) there)))

-- ---- existence

has_decided : (a r : ℕ) → (Has a r) ⊎ (¬ Has a r)
has_decided a r = elim (cases_eq (bit_at a r) 1) [ inl e ↦ inl e | inr breaks ↦ inr breaks ]

-- a list with labels of so many edges
record AreListed (P : ℕ → EdgeLabels → Type 0) (count : ℕ) (labels : List EdgeLabels) : Type 0 where
  length_is : length labels ≡ count
  each : (e : ℕ) → e < count → P e (labels_at labels e)

listed : (count : ℕ) (P : ℕ → EdgeLabels → Type 0) → ((e : ℕ) → e < count → (l : EdgeLabels) × P e l) →
    (labels : List EdgeLabels) × AreListed P count labels
listed zero P own = ([], record { length_is = refl; each = λ e below. absurd (omega arith) })
listed (suc count) P own =
    let first = own 0 (omega arith) in
    let rest = listed count (λ e. P (suc e)) (λ e below. own (suc e) (omega (arith, below))) in
    (first.0 ∷ rest.0, record { length_is = ap suc rest.1.length_is; each = at first.0 first.1 rest.0 rest.1 })
  where
    at : (l : EdgeLabels) → P 0 l → (ls : List EdgeLabels) → AreListed (λ e. P (suc e)) count ls → (e : ℕ) →
        e < suc count → P e (labels_at (l ∷ ls) e)
    at l here ls are zero below = here
    at l here ls are (suc e) below = are.each e (omega (arith, below))

module _ (m : Algebra) (n : ℕ) (class : List ℕ) (budget : ℕ) (words : List ℕ) (calculus : IsCalculus m)
    (net : IsNetwork m n words) (is_class : IsClass class) (bases : EachBase m (HasBase class)) where
  some_outcome : (e base : ℕ) → e < edge_count n → (o : Outcome) × IsOutcome m n class budget words e base o
  some_outcome e base below =
      let found = label_exists m n class budget words e base calculus net is_class bases below in
      (outcome_of found.0, record { label = found.0; is_label = found.1; is = refl })

  some_edge_labels : (closure : List ℕ) → IsClosure m n words closure → (e : ℕ) → e < edge_count n →
      (l : EdgeLabels) × AreEdgeLabels m n class budget words e (slice_index closure e) l
  some_edge_labels closure is e below =
      let set = slice_index closure e in
      let within = (closure-network m n words closure net is).within e in
      let found = some_labels_below m n class budget words e set m.size (λ base has. some_outcome e base below)
      (has_decided set) in (
        found.0,
        labels-all m n class budget words e set m.size found.0 found.1
            (λ base has. full-member m base (within.each base has)),
      )

pub labels_exist : LabelsExist
labels_exist m n class budget words closure calculus net is_class bases is =
    let found = listed (edge_count n) (λ e l. AreEdgeLabels m n class budget words e (slice_index closure e) l)
    (some_edge_labels m n class budget words calculus net is_class bases closure is) in
    (found.0, record { length_is = found.1.length_is; each = found.1.each })

-- ---- those of the closure

outcome-closure : (m : Algebra) (n : ℕ) (class : List ℕ) (budget : ℕ) (words closure : List ℕ) (e base : ℕ) (o : Outcome) →
    IsCalculus m → IsNetwork m n words → IsClosure m n words closure → e < edge_count n →
    IsOutcome m n class budget words e base o ↔ IsOutcome m n class budget closure e base o
outcome-closure m n class budget words closure e base o calculus net is below = (
  (λ h. record {
    label = h.label;
    is_label = (label_of_closure m n class budget words closure e base h.label calculus net is below).0 h.is_label;
    is = h.is;
  }),
  (λ h. record {
    label = h.label;
    is_label = (label_of_closure m n class budget words closure e base h.label calculus net is below).1 h.is_label;
    is = h.is;
  }),
)

pub labels_of_closure : LabelsOfClosure
labels_of_closure m n class budget words closure labels calculus net is own = record {
  length_is = own.length_is;
  each = λ e below. record {
    each = λ o base.
        let same = outcome-closure m n class budget words closure e base o calculus net is below in
        let at = (own.each e below).each o base in (
          (λ there. let h = at.0 there in (h.0, same.1 h.1)),
          (λ h. at.1 (h.0, same.0 h.1)),
        );
  };
}

-- ---- what is left

module _ (m : Algebra) (n : ℕ) (class : List ℕ) (budget : ℕ) (words : List ℕ) (e base : ℕ) where
  outcome-apart : (l : Label) (o : Outcome) → IsOutcome m n class budget words e base o →
      IsLabel m n class budget words e base l → o ≡ outcome_of l
  outcome-apart l o h own = h.is ∙ ap outcome_of (label_one m n class budget words e base h.label l h.is_label own)

  held-not_refuted : IsOutcome m n class budget words e base Held → ¬ IsRefutedAt m n class budget words e base
  held-not_refuted h refuted = held_apart (outcome-apart (label.Refuted refuted.0) Held h refuted.1)
    where
      held_apart : Held ≡ Refuted → ⊥
      held_apart e = cc

  open-not_refuted : IsOutcome m n class budget words e base Open → ¬ IsRefutedAt m n class budget words e base
  open-not_refuted h refuted = open_apart (outcome-apart (label.Refuted refuted.0) Open h refuted.1)
    where
      open_apart : Open ≡ Refuted → ⊥
      open_apart e = cc

  left-has : (set : ℕ) (l : EdgeLabels) → AreEdgeLabels m n class budget words e set l → Has set base →
      ¬ IsRefutedAt m n class budget words e base → (o : Outcome) → IsOutcome m n class budget words e base o →
      Has (left_in l) base
  left-has set l are has none Held h = Has-union_l l.held l.undecided base ((are.each Held base).1 (has, h))
  left-has set l are has none Open h = Has-union_r l.held l.undecided base ((are.each Open base).1 (has, h))
  left-has set l are has none Refuted h = absurd (refuted_none h.label h.is h.is_label)
    where
      refuted_none : (k : Label) → Refuted ≡ outcome_of k → IsLabel m n class budget words e base k → ⊥
      refuted_none (label.Held relations) is own = cc
      refuted_none (label.Refuted nodes) is own = none (nodes, own)
      refuted_none (label.Budget nodes) is own = cc

  left-of : (set : ℕ) (l : EdgeLabels) → AreEdgeLabels m n class budget words e set l → Has (left_in l) base →
      Has set base × (¬ IsRefutedAt m n class budget words e base)
  left-of set l are has = elim (Has-union l.held l.undecided base has) [
    | inl held ↦ (let h = (are.each Held base).0 held in (h.0, held-not_refuted h.1))
    | inr open_one ↦ (let h = (are.each Open base).0 open_one in (h.0, open-not_refuted h.1))
  ]

left-at : (ls : List EdgeLabels) (e : ℕ) → e < length ls → slice_index (left_of ls) e ≡ left_in (labels_at ls e)
left-at ls e below = get_or-map left_in ls e no_labels 0 below

pub labels_leave : LabelsLeave
labels_leave m n class budget words closure ls calculus net is_class bases is own = record {
  closure = closure;
  is_closure = is;
  length_is = length-map ls left_in ∙ own.length_is ∙ sym net.length_is;
  each = λ e base below.
      let at = left-at ls e (subst (λ k. e < k) (sym own.length_is) below) in
      let set = slice_index closure e in
      let l = labels_at ls e in
      let some = some_outcome m n class budget words calculus net is_class bases e base below in (
        (λ has. left-of m n class budget words e base set l (own.each e below) (subst (λ a. Has a base) at has)),
        (λ h. subst (λ a. Has a base) (sym at)
            (left-has m n class budget words e base set l (own.each e below) h.0 h.1 some.0 some.1)),
      );
}

-- ---- the minimal network

count-at : (o : Outcome) (ls : List EdgeLabels) (e : ℕ) → e < length ls →
    count_ones (with_outcome o (labels_at ls e)) ≤ count_of o ls
count-at o [] e below = absurd (omega arith)
count-at o (l ∷ ls) zero below = omega arith
count-at o (l ∷ ls) (suc e) below = omega (arith, count-at o ls e (omega (arith, below)))

pub labels_minimal : LabelsAreMinimal
unfolding labels_leave
labels_minimal m n class budget words closure ls calculus net is_class bases is own none =
    let left = labels_leave m n class budget words closure ls calculus net is_class bases is own in
    labelled_minimal m n class budget words (left_of ls) left calculus net is_class bases
    (λ e base below has open_one.
    let there : e < length ls = subst (λ k. e < k) (sym own.length_is) below in
    let set = with_outcome Open (labels_at ls e) in
    let here : Has set base = ((own.each e below).each Open base).1
    (has, record { label = label.Budget open_one.0; is_label = open_one.1; is = refl }) in
    let some = count-some set (λ empty. not_Has-empty base (subst (λ a. Has a base) empty here)) in
    omega (arith, none, some, count-at Open ls e there))
