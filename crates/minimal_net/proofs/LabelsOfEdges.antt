-- The labels of an edge, base relation by base relation.
use Rattle.std.proofs.Common.{◌≡◌, ℕ, zero, suc, ◌+◌, ◌^◌, ◌<◌, ◌↔◌, List, refl, sym, ap, ◌∙◌, subst, arith, ◌⊎◌, inl, inr}
use Rattle.std.specs.Prelude.{bit_or}
use Rattle.std.proofs.lemmas.Bool.{cases_eq}
use Rattle.calculus_table.specs.Rel.{Has}
use Rattle.calculus_table.specs.Algebra.{Algebra}
use Rattle.calculus_table.proofs.Sets.{Has-union_l, Has-union_r, Has-union, Has-single, not_Has-empty, IsWithin-antisym}
use Rattle.calculus_table.proofs.Members.{single-member}
use Rattle.minimal_net.specs.declared.outcome.Outcome.{Outcome}
use Rattle.minimal_net.specs.declared.outcome.Outcome.TheVariants.{Held, Refuted, Open}
use Rattle.minimal_net.specs.declared.edge_labels.EdgeLabels.{EdgeLabels}
use Rattle.minimal_net.specs.NetworkLabels.{outcome_of, IsOutcome, no_labels, with_outcome, IsPut, AreEdgeLabels}
use Rattle.minimal_net.proofs.Labels.{label_one}

-- ---- putting a base relation

union-put : (base : ℕ) (o : Outcome) (old new : EdgeLabels) →
    ((other : Outcome) → ((other ≡ o) × (with_outcome other new ≡ bit_or (with_outcome other old) (2 ^ base)))
    ⊎ ((¬ (other ≡ o)) × (with_outcome other new ≡ with_outcome other old))) → IsPut base o old new
union-put base o old new h = record {
  here = elim (h o) [
    | inl same ↦ subst (λ a. Has a base) (sym same.1) (Has-union_r (with_outcome o old) (2 ^ base) base (Has-single base))
    | inr apart ↦ absurd (apart.0 refl)
  ];
  kept = λ other r has. elim (h other) [
    | inl same ↦ subst (λ a. Has a r) (sym same.1) (Has-union_l (with_outcome other old) (2 ^ base) r has)
    | inr apart ↦ subst (λ a. Has a r) (sym apart.1) has
  ];
  rest = λ other r has. elim (h other) [
    | inl same ↦ elim (Has-union (with_outcome other old) (2 ^ base) r (subst (λ a. Has a r) same.1 has)) [
      | inl before ↦ inl before
      | inr single ↦ inr (single-member base r single, same.0)
    ]
    | inr apart ↦ inl (subst (λ a. Has a r) apart.1 has)
  ];
}

pub put-held : (base : ℕ) (old new : EdgeLabels) → new ≡ record old { held = bit_or old.held (2 ^ base) } →
    IsPut base Held old new
put-held base old new is = union-put base Held old new at
  where
    at : (other : Outcome) → ((other ≡ Held) × (with_outcome other new ≡ bit_or (with_outcome other old) (2 ^ base)))
        ⊎ ((¬ (other ≡ Held)) × (with_outcome other new ≡ with_outcome other old))
    at Held = inl (refl, ap (λ (l : EdgeLabels). l.held) is)
    at Refuted = inr ((λ e. cc), ap (λ (l : EdgeLabels). l.refuted) is)
    at Open = inr ((λ e. cc), ap (λ (l : EdgeLabels). l.undecided) is)

pub put-refuted : (base : ℕ) (old new : EdgeLabels) → new ≡ record old { refuted = bit_or old.refuted (2 ^ base) } →
    IsPut base Refuted old new
put-refuted base old new is = union-put base Refuted old new at
  where
    at : (other : Outcome) →
        ((other ≡ Refuted) × (with_outcome other new ≡ bit_or (with_outcome other old) (2 ^ base)))
        ⊎ ((¬ (other ≡ Refuted)) × (with_outcome other new ≡ with_outcome other old))
    at Held = inr ((λ e. cc), ap (λ (l : EdgeLabels). l.held) is)
    at Refuted = inl (refl, ap (λ (l : EdgeLabels). l.refuted) is)
    at Open = inr ((λ e. cc), ap (λ (l : EdgeLabels). l.undecided) is)

pub put-open : (base : ℕ) (old new : EdgeLabels) → new ≡ record old { undecided = bit_or old.undecided (2 ^ base) } →
    IsPut base Open old new
put-open base old new is = union-put base Open old new at
  where
    at : (other : Outcome) → ((other ≡ Open) × (with_outcome other new ≡ bit_or (with_outcome other old) (2 ^ base)))
        ⊎ ((¬ (other ≡ Open)) × (with_outcome other new ≡ with_outcome other old))
    at Held = inr ((λ e. cc), ap (λ (l : EdgeLabels). l.held) is)
    at Refuted = inr ((λ e. cc), ap (λ (l : EdgeLabels). l.refuted) is)
    at Open = inl (refl, ap (λ (l : EdgeLabels). l.undecided) is)

pub put-outcome : (base : ℕ) (o other : Outcome) (old new : EdgeLabels) → other ≡ o → IsPut base o old new →
    IsPut base other old new
put-outcome base o other old new is put = subst (λ p. IsPut base p old new) (sym is) put

some_put : (base : ℕ) (o : Outcome) (old : EdgeLabels) → (new : EdgeLabels) × IsPut base o old new
some_put base Held old =
    let new = record old { held = bit_or old.held (2 ^ base) } in (new, put-held base old new refl)
some_put base Refuted old =
    let new = record old { refuted = bit_or old.refuted (2 ^ base) } in (new, put-refuted base old new refl)
some_put base Open old =
    let new = record old { undecided = bit_or old.undecided (2 ^ base) } in (new, put-open base old new refl)

-- ---- the labels below a base relation

module _ (m : Algebra) (n : ℕ) (class : List ℕ) (budget : ℕ) (words : List ℕ) (e : ℕ) where
  pub outcome_one : (base : ℕ) (o p : Outcome) → IsOutcome m n class budget words e base o →
      IsOutcome m n class budget words e base p → o ≡ p
  outcome_one base o p a b =
      a.is ∙ ap outcome_of (label_one m n class budget words e base a.label b.label a.is_label b.is_label) ∙ sym b.is

  -- those of the base relations below k
  pub record AreLabelsBelow (set k : ℕ) (labels : EdgeLabels) : Type 0 where
    pub each : (o : Outcome) (base : ℕ) → Has (with_outcome o labels) base
        ↔ ((base < k) × Has set base × IsOutcome m n class budget words e base o)

  none-with : (o : Outcome) → with_outcome o no_labels ≡ 0
  none-with Held = refl
  none-with Refuted = refl
  none-with Open = refl

  pub labels-none : (set : ℕ) → AreLabelsBelow set 0 no_labels
  labels-none set = record {
    each = λ o base. (
      (λ has. absurd (not_Has-empty base (subst (λ a. Has a base) (none-with o) has))),
      (λ h. absurd (omega (arith, h.0))),
    );
  }

  pub labels-put : (set k : ℕ) (o : Outcome) (old new : EdgeLabels) → AreLabelsBelow set k old → Has set k →
      IsOutcome m n class budget words e k o → IsPut k o old new → AreLabelsBelow set (k + 1) new
  labels-put set k o old new are has is put = record {
    each = λ other base. (
      (λ there. elim (put.rest other base there) [
        | inl before ↦ (let h = (are.each other base).0 before in (omega (arith, h.0), h.1, h.2))
        | inr here ↦ (
          omega (arith, here.0),
          subst (Has set) (sym here.0) has,
          subst (λ r. IsOutcome m n class budget words e r other) (sym here.0)
              (subst (IsOutcome m n class budget words e k) (sym here.1) is),
        )
      ]),
      (λ h. elim (cases_eq base k) [
        | inl same ↦ (
            let own : IsOutcome m n class budget words e k other =
            subst (λ r. IsOutcome m n class budget words e r other) same h.2 in
            subst (λ p. Has (with_outcome p new) base) (outcome_one k o other is own)
            (subst (Has (with_outcome o new)) (sym same) put.here))
        | inr apart ↦ put.kept other base ((are.each other base).1 (omega (arith, h.0, apart), h.1, h.2))
      ]),
    );
  }

  pub labels-skip : (set k : ℕ) (old : EdgeLabels) → AreLabelsBelow set k old → ¬ Has set k →
      AreLabelsBelow set (k + 1) old
  labels-skip set k old are none = record {
    each = λ other base. (
      (λ there. let h = (are.each other base).0 there in (omega (arith, h.0), h.1, h.2)),
      (λ h. elim (cases_eq base k) [
        | inl same ↦ absurd (none (subst (Has set) same h.1))
        | inr apart ↦ (are.each other base).1 (omega (arith, h.0, apart), h.1, h.2)
      ]),
    );
  }

  pub labels-all : (set k : ℕ) (labels : EdgeLabels) → AreLabelsBelow set k labels →
      ((base : ℕ) → Has set base → base < k) → AreEdgeLabels m n class budget words e set labels
  labels-all set k labels are below = record {
    each = λ o base. (
      (λ there. let h = (are.each o base).0 there in (h.1, h.2)),
      (λ h. (are.each o base).1 (below base h.0, h.0, h.1)),
    );
  }

  -- ---- one and some

  same-set : (a b : ℕ) → ((base : ℕ) → Has a base → Has b base) → ((base : ℕ) → Has b base → Has a base) → a ≡ b
  same-set a b to from = IsWithin-antisym a b (record { each = to }) (record { each = from })

  pub edge-labels-one : (set : ℕ) (k l : EdgeLabels) → AreEdgeLabels m n class budget words e set k →
      AreEdgeLabels m n class budget words e set l → k ≡ l
  edge-labels-one set k l own other =
      let same : (o : Outcome) → with_outcome o k ≡ with_outcome o l = λ o.
      same-set (with_outcome o k) (with_outcome o l)
      (λ base has. (other.each o base).1 ((own.each o base).0 has))
      (λ base has. (own.each o base).1 ((other.each o base).0 has)) in
      let held : k.held ≡ l.held = same Held in
      let refuted : k.refuted ≡ l.refuted = same Refuted in
      let open_ones : k.undecided ≡ l.undecided = same Open in
      ap (λ a. record { held = a; refuted = k.refuted; undecided = k.undecided }) held
      ∙ ap (λ a. record { held = l.held; refuted = a; undecided = k.undecided }) refuted
      ∙ ap (λ a. record { held = l.held; refuted = l.refuted; undecided = a }) open_ones

  pub some_labels_below : (set k : ℕ) →
      ((base : ℕ) → Has set base → (o : Outcome) × IsOutcome m n class budget words e base o) →
      ((base : ℕ) → (Has set base) ⊎ (¬ Has set base)) → (labels : EdgeLabels) × AreLabelsBelow set k labels
  some_labels_below set zero own decided = (no_labels, labels-none set)
  some_labels_below set (suc k) own decided =
      let rest = some_labels_below set k own decided in
      elim (decided k) [
        | inl has ↦ (
            let found = own k has in
            let put = some_put k found.0 rest.0 in (
              put.0,
              subst (λ j. AreLabelsBelow set j put.0) (omega arith)
                  (labels-put set k found.0 rest.0 put.0 rest.1 has found.1 put.1),
            ))
        | inr none ↦ (rest.0, subst (λ j. AreLabelsBelow set j rest.0) (omega arith) (labels-skip set k rest.0 rest.1 none))
      ]
