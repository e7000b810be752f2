-- A pattern asks what its text asks, and a text is wrong at one place at most.
use Rattle.std.proofs.Common.{◌≡◌, ℕ, ◌<◌, inl, inr, List, None, sym, ap, subst, ◌∙◌, arith}
use Rattle.std.specs.Prelude.{slice_index, unwrap_or, IsSome}
use Rattle.std.proofs.lemmas.Bool.{cases_lt}
use Rattle.std.proofs.lemmas.List.{get_or-map}
use Rattle.de9im.specs.declared.patterns.Want.{Want}
use Rattle.de9im.specs.declared.patterns.Want.TheVariants.{Anything}
use Rattle.de9im.specs.Entries.{entries}
use Rattle.de9im.specs.Patterns.{want_of, want_at, dim_at, wants, Admits, IsPattern, IsWrongAt}
use Rattle.de9im.specs.Laws.{PatternAsksAsText, WrongPlaceIsOne, PatternIsNotWrong}

want_at-wants : (text : List ℕ) (ws : List Want) (k : ℕ) → IsPattern text ws → k < 9 → want_at (wants text) k ≡ want_at ws k
want_at-wants text ws k h below =
    get_or-map (λ b. unwrap_or (want_of b) Anything) text k 0 Anything (omega (arith, h.nine)) ∙ ap (λ o. unwrap_or o Anything) (h.each k below)

pub pattern-asks : PatternAsksAsText
pattern-asks text ws m h = (
  λ fits. record { each = λ k below. subst (λ w. Admits w (dim_at (entries m) k)) (sym (want_at-wants text ws k h below)) (fits.each k below) },
  λ fits. record { each = λ k below. subst (λ w. Admits w (dim_at (entries m) k)) (want_at-wants text ws k h below) (fits.each k below) },
)

asks-nothing : (text : List ℕ) (k : ℕ) → IsSome (want_of (slice_index text k)) → want_of (slice_index text k) ≡ None → ⊥
asks-nothing text k some none = cc

not_before : (text : List ℕ) (place other : ℕ) → IsWrongAt text place → IsWrongAt text other → place < other → ⊥
not_before text place other h g less = elim h.stop [
  | inl x ↦ asks-nothing text place (g.before place less) x.1.1
  | inr x ↦ elim g.stop [ inl y ↦ omega (arith, x.0, y.0, y.1.0) | inr y ↦ omega (arith, x.0, y.0) ]
]

pub wrong_place-one : WrongPlaceIsOne
wrong_place-one text place other h g = elim (cases_lt place other) [
  | inl less ↦ absurd (not_before text place other h g less)
  | inr least ↦ elim (cases_lt other place) [ inl less ↦ absurd (not_before text other place g h less) | inr most ↦ omega arith ]
]

pub pattern-not_wrong : PatternIsNotWrong
pattern-not_wrong text ws place h g = elim g.stop [
  | inl x ↦ (let asked = h.each place x.0 in cc)
  | inr x ↦ x.1 h.nine
]
