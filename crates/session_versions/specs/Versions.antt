-- Versions: facts, and the algebraic closure of the network that they state.
use Rattle.std.specs.Prelude.{◌≡◌, ℕ, List, All}
use Rattle.calculus_table.specs.Rel.{IsWithin}
use Rattle.calculus_table.specs.Algebra.{Algebra}
use Rattle.calculus_table.specs.Composition.{full_of}
use Rattle.network_words.specs.declared.fact.Fact.{Fact}
use Rattle.network_words.specs.Edge.{IsProperPair}
use Rattle.network_words.specs.Network.{Network}
use Rattle.network_words.specs.Facts.{IsNetworkOfFacts}
use Rattle.network_words.specs.Closure.{IsClosure}
use Rattle.session_versions.specs.HeldFacts.{HeldFact, facts_of}

-- what contracts see of a version
pub record VersionState : Type 0 where
  pub number : ℕ
  pub facts : List HeldFact
  pub net : Network

-- the algebraic closure of the network that the facts state
pub record IsClosureOfFacts (m : Algebra) (n : ℕ) (facts : List Fact) (closure : List ℕ) : Type 0 where
  pub words : List ℕ
  pub network : IsNetworkOfFacts m n facts words
  pub closed : IsClosure m n words closure

-- each fact is of two different nodes, and has a set of base relations of the calculus
pub record AreProper (m : Algebra) (n : ℕ) (helds : List HeldFact) : Type 0 where
  pub pairs : All (λ held. IsProperPair n held.fact.i held.fact.j) helds
  pub sets : All (λ held. IsWithin held.fact.rel (full_of m)) helds

-- a version over n nodes: proper facts, and the closure of the network that they state
pub record IsVersion (m : Algebra) (n : ℕ) (version : VersionState) : Type 0 where
  pub nodes : version.net.nodes ≡ n
  pub proper : AreProper m n version.facts
  pub closure : IsClosureOfFacts m n (facts_of version.facts) version.net.words
