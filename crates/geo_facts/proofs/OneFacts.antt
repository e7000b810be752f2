-- Two rings have one relation at most, polygons one list of facts, and names one first that is no node's.
use Rattle.std.proofs.Common.{◌≡◌, ℕ, ◌<◌, inl, inr, List, [], ◌∷◌, length, slice_get, Some, refl, sym, ap, subst, ◌∙◌, arith}
use Rattle.std.specs.List.{All, AllZip}
use Rattle.std.proofs.lemmas.Bool.{cases_lt}
use Rattle.std.proofs.lemmas.List.Elements.{All-nil, All-cons}
use Rattle.std.proofs.lemmas.Option.{slice_get_within}
use Rattle.calculus_table.specs.Rel.{IsWithin}
use Rattle.calculus_table.specs.Calculus.{AreDistinct}
use Rattle.calculus_table.specs.Composition.{full_of}
use Rattle.calculus_builtin.specs.Rcc8.{rcc8_algebra}
use Rattle.network_words.specs.declared.fact.Fact.{Fact}
use Rattle.poly_exact.specs.declared.points.Point.{Point}
use Rattle.de9im.proofs.OneMatrix.{matrix-one}
use Rattle.geo_facts.specs.Relating.{rcc8_of}
use Rattle.geo_facts.specs.Facts.{IsRcc8, RingPair, ring_pairs, IsFactOf, AreFactsOf, AreNodesTo, IsFirstStranger}
use Rattle.geo_facts.specs.Laws.{Rcc8IsOne, FactsAreOne, FactsAreProper, FactFaultIsOne, NodesHaveNoFault}
use Rattle.geo_facts.proofs.Patterns.{rcc8-within}

-- ---- relations

pub rcc8-one : Rcc8IsOne
rcc8-one vs ws rel other h g =
    h.relation ∙ ap rcc8_of (matrix-one vs ws h.matrix g.matrix h.is_matrix g.is_matrix) ∙ sym g.relation

-- the set of two rings is one of RCC-8
pub IsRcc8-within : (vs ws : List Point) (rel : ℕ) → IsRcc8 vs ws rel → IsWithin rel (full_of rcc8_algebra)
IsRcc8-within vs ws rel h = subst (λ x. IsWithin x (full_of rcc8_algebra)) (sym h.relation) (rcc8-within h.matrix)

-- ---- facts

AllZip-one : {A B : Type 0} (R : A → B → Type 0) → ((x : A) (y z : B) → R x y → R x z → y ≡ z) → (xs : List A) (ys zs : List B) → AllZip R xs ys → AllZip R xs zs → ys ≡ zs
AllZip-one R one [] [] [] h g = refl
AllZip-one R one [] [] (z ∷ zs) h g = absurd g
AllZip-one R one [] (y ∷ ys) zs h g = absurd h
AllZip-one R one (x ∷ xs) [] zs h g = absurd h
AllZip-one R one (x ∷ xs) (y ∷ ys) [] h g = absurd g
AllZip-one R one (x ∷ xs) (y ∷ ys) (z ∷ zs) h g =
    ap (λ w. w ∷ ys) (one x y z h.0 g.0) ∙ ap (λ ws. z ∷ ws) (AllZip-one R one xs ys zs h.1 g.1)

module _ (names : List (List ℕ)) (distinct : AreDistinct names) where
  node-one : (name : List ℕ) (j k : ℕ) → slice_get names j ≡ Some name → slice_get names k ≡ Some name → j ≡ k
  node-one name j k h g = elim (cases_lt j k) [
    | inl less ↦ absurd (distinct j k less (slice_get_within names k name g) (h ∙ sym g))
    | inr least ↦ elim (cases_lt k j) [
      | inl less ↦ absurd (distinct k j less (slice_get_within names j name h) (g ∙ sym h))
      | inr most ↦ omega arith
    ]
  ]

  fact-one : (pair : RingPair) (fact other : Fact) → IsFactOf names pair fact → IsFactOf names pair other → fact ≡ other
  fact-one pair fact other h g =
      let first = node-one pair.first.name fact.i other.i h.first g.first in
      let second = node-one pair.second.name fact.j other.j h.second g.second in
      let relation = rcc8-one pair.first.vertices pair.second.vertices fact.rel other.rel h.relation g.relation in
      λ k. record { i = first k; j = second k; rel = relation k }

pub facts-one : FactsAreOne
facts-one names polygons facts others distinct h g =
    AllZip-one (IsFactOf names) (fact-one names distinct) (ring_pairs polygons) facts others h g

-- no polygons have no facts
pub facts-none : (names : List (List ℕ)) (facts : List Fact) → AreFactsOf names [] facts → facts ≡ []
facts-none names [] h = refl
facts-none names (fact ∷ facts) h = absurd h

pub AreFactsOf-none : (names : List (List ℕ)) → AreFactsOf names [] []
AreFactsOf-none names = tt

within-each : (names : List (List ℕ)) (pairs : List RingPair) (facts : List Fact) → AllZip (IsFactOf names) pairs facts → All (λ fact. IsWithin fact.rel (full_of rcc8_algebra)) facts
within-each names [] [] h = All-nil (λ fact. IsWithin fact.rel (full_of rcc8_algebra))
within-each names [] (fact ∷ facts) h = absurd h
within-each names (pair ∷ pairs) [] h = absurd h
within-each names (pair ∷ pairs) (fact ∷ facts) h =
    All-cons (λ fact. IsWithin fact.rel (full_of rcc8_algebra)) fact facts (IsRcc8-within pair.first.vertices pair.second.vertices fact.rel h.0.relation) (within-each names pairs facts h.1)

pub AreFactsOf-within : FactsAreProper
AreFactsOf-within names polygons facts h = within-each names (ring_pairs polygons) facts h

-- ---- polygons whose names are no node's

nodes-no_stranger : (names polygons : List (List ℕ)) (at n : ℕ) → AreNodesTo names polygons n → IsFirstStranger names polygons at → at < n → ⊥
nodes-no_stranger names polygons at n nodes h less =
    let node = nodes at h.name less h.there in
    h.stranger node.node node.named

pub fact_fault-one : FactFaultIsOne
fact_fault-one names polygons at other h g = elim (cases_lt at other) [
  | inl less ↦ absurd (nodes-no_stranger names polygons at other g.before h less)
  | inr least ↦ elim (cases_lt other at) [
    | inl less ↦ absurd (nodes-no_stranger names polygons other at h.before g less)
    | inr most ↦ omega arith
  ]
]

pub nodes-no_fault : NodesHaveNoFault
nodes-no_fault names polygons at nodes h =
    nodes-no_stranger names polygons at (length polygons) nodes h (slice_get_within polygons at h.name h.there)
