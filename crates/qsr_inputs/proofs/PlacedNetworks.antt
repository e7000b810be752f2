-- A network that is narrowed by the facts of polygons.
use Rattle.std.proofs.Common.{◌≡◌, ℕ, List, [], ◌∷◌, inl, inr, sym, subst}
use Rattle.std.specs.Prelude.{All}
use Rattle.std.proofs.lemmas.List.Elements.{All-nil}
use Rattle.calculus_table.specs.Rel.{IsWithin}
use Rattle.calculus_table.specs.Algebra.{Algebra}
use Rattle.calculus_table.specs.Calculus.{NamedAlgebra}
use Rattle.calculus_table.specs.Composition.{full_of}
use Rattle.network_words.specs.Network.{Network, IsNetwork}
use Rattle.network_words.specs.Facts.{narrowed_by}
use Rattle.network_words.specs.declared.fact.Fact.{Fact}
use Rattle.network_words.proofs.Refinements.{IsNetwork-narrowed_at}
use Rattle.geo_facts.specs.PolygonFile.{NamedRing}
use Rattle.geo_facts.specs.Facts.{AreFactsOf}
use Rattle.geo_facts.proofs.OneFacts.{facts-none, AreFactsOf-within}
use Rattle.qsr_inputs.specs.Inputs.{IsOnRcc8}

narrowed_network : (m : Algebra) (n : ℕ) (facts : List Fact) (words : List ℕ) → IsNetwork m n words → IsNetwork m n (narrowed_by m n words facts)
narrowed_network m n [] words h = h
narrowed_network m n (f ∷ facts) words h = narrowed_network m n facts _ (IsNetwork-narrowed_at m n words f.i f.j f.rel h)

-- it is a network over the calculus still
pub placed_is_network : (m : Algebra) (net placed : Network) (facts : List Fact) → IsNetwork m net.nodes net.words →
    placed ≡ record net { words = narrowed_by m net.nodes net.words facts } → IsNetwork m placed.nodes placed.words
placed_is_network m net placed facts h e = subst (λ n. IsNetwork m n.nodes n.words) (sym e) (narrowed_network m net.nodes facts net.words h)

-- the facts have sets of the calculus
pub placed_within : (c : NamedAlgebra) (polygons : List NamedRing) (names : List (List ℕ)) (facts : List Fact) → IsOnRcc8 c polygons → AreFactsOf names polygons facts →
    All (λ f. IsWithin f.rel (full_of c.algebra)) facts
placed_within c polygons names facts on h = elim on [
  | inl none ↦
      let no_facts = facts-none names facts (subst (λ ps. AreFactsOf names ps facts) none h) in
      subst (All (λ f. IsWithin f.rel (full_of c.algebra))) (sym no_facts) (All-nil _)
  | inr same ↦ subst (λ k. All (λ f. IsWithin f.rel (full_of k.algebra)) facts) (sym same) (AreFactsOf-within names polygons facts h)
]
