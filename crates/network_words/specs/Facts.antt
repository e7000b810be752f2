-- The network that a list of facts states.
use Rattle.std.specs.Prelude.{◌≡◌, ℕ, ◌<◌, ◌↔◌, List, [], ◌∷◌, length, slice_index, All}
use Rattle.calculus_table.specs.Rel.{Has}
use Rattle.calculus_table.specs.Algebra.{Algebra}
use Rattle.calculus_table.specs.Composition.{converse}
use Rattle.network_words.specs.Edge.{edge_count, edge_at}
use Rattle.network_words.specs.Network.{narrowed_at}
use Rattle.network_words.specs.declared.fact.Fact.{Fact}

-- the fact lets the base relation t stand on the pair (i, j); a fact of another pair lets each
pub record Allows (m : Algebra) (i j t : ℕ) (fact : Fact) : Type 0 where
  pub forward : fact.i ≡ i → fact.j ≡ j → Has fact.rel t
  pub backward : fact.i ≡ j → fact.j ≡ i → Has (converse m fact.rel) t

-- the set of each edge has the base relations that every fact allows
pub record IsNetworkOfFacts (m : Algebra) (n : ℕ) (facts : List Fact) (words : List ℕ) : Type 0 where
  pub length_is : length words ≡ edge_count n
  pub members : (i j t : ℕ) → i < j → j < n →
      Has (slice_index words (edge_at n i j)) t ↔ (t < m.size) × All (Allows m i j t) facts

-- the network in which the set of each fact's pair is intersected with the fact's set
abbrev pub narrowed_by : Algebra → ℕ → List ℕ → List Fact → List ℕ
narrowed_by m n words [] = words
narrowed_by m n words (fact ∷ facts) = narrowed_by m n (narrowed_at m n words fact.i fact.j fact.rel) facts
