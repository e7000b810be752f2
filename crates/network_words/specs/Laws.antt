-- What holds of edges, closed networks, closures and scenarios in every calculus.
use Rattle.std.specs.Prelude.{◌≡◌, ℕ, ◌<◌, ◌↔◌, List, ◌++◌, length, slice_index, All}
use Rattle.calculus_table.specs.Algebra.{Algebra}
use Rattle.calculus_table.specs.Calculus.{IsCalculus}
use Rattle.network_words.specs.Edge.{edge_count, edge_at, EdgeOf, ComesBefore, IsProperPair}
use Rattle.network_words.specs.Network.{IsNetwork, Refines}
use Rattle.network_words.specs.Closure.{IsRangeClosed, IsClosed, KeepsClosed, IsClosure}
use Rattle.network_words.specs.Scenario.{IsScenario, as_network}
use Rattle.network_words.specs.Facts.{IsNetworkOfFacts, narrowed_by}
use Rattle.network_words.specs.declared.fact.Fact.{Fact}

-- ---- edges

-- edges are numbered in the lexicographic order of their pairs
abbrev pub EdgesAreInOrder : Type 0
EdgesAreInOrder =
    (n i j k l : ℕ) → i < j → j < n → k < l → l < n → edge_at n i j < edge_at n k l ↔ ComesBefore i j k l

-- each number below the number of edges is the number of an edge
abbrev pub EachNumberHasAnEdge : Type 0
EachNumberHasAnEdge = (n e : ℕ) → e < edge_count n → EdgeOf n e

-- and of no other one
abbrev pub NoNumberHasTwoEdges : Type 0
NoNumberHasTwoEdges =
    (n i j k l : ℕ) → i < j → j < n → k < l → l < n → edge_at n i j ≡ edge_at n k l → (i ≡ k) × (j ≡ l)

-- ---- closed networks

-- a network that is closed at every edge is closed
abbrev pub EveryEdgeClosedIsClosed : Type 0
EveryEdgeClosedIsClosed =
    (m : Algebra) (n : ℕ) (words : List ℕ) → IsCalculus m → IsNetwork m n words →
    IsRangeClosed m n words 0 (edge_count n) → IsClosed m n words

-- in a closed network one empty set makes every set empty
abbrev pub EmptyEmptiesAll : Type 0
EmptyEmptiesAll =
    (m : Algebra) (n e : ℕ) (words : List ℕ) → IsCalculus m → IsNetwork m n words → IsClosed m n words →
    e < edge_count n → slice_index words e ≡ 0 → (d : ℕ) → slice_index words d ≡ 0

-- ---- closures

-- a network has a closure
abbrev pub ClosureExists : Type 0
ClosureExists =
    (m : Algebra) (n : ℕ) (words : List ℕ) → IsCalculus m → IsNetwork m n words →
    (closure : List ℕ) × IsClosure m n words closure

-- and one at most
abbrev pub ClosureIsUnique : Type 0
ClosureIsUnique =
    (m : Algebra) (n : ℕ) (words c d : List ℕ) → IsClosure m n words c → IsClosure m n words d → c ≡ d

-- what is narrowed and loses no closed network, until it is closed, is the closure
abbrev pub KeepingClosedGivesClosure : Type 0
KeepingClosedGivesClosure =
    (m : Algebra) (n : ℕ) (words closure : List ℕ) → IsNetwork m n words → KeepsClosed m n words closure →
    IsClosed m n closure → IsClosure m n words closure

-- a network that lies between the closure of a network and the network has the same closure
abbrev pub BetweenHasSameClosure : Type 0
BetweenHasSameClosure =
    (m : Algebra) (n : ℕ) (words between closure : List ℕ) → IsClosure m n words closure →
    length between ≡ length words → Refines closure between → Refines between words → IsClosure m n between closure

-- the closure of (the closure of a network, narrowed by facts) is the closure of (the network, narrowed by the facts)
abbrev pub ClosureMeetsFacts : Type 0
ClosureMeetsFacts =
    (m : Algebra) (n : ℕ) (words closure : List ℕ) (facts : List Fact) (met : List ℕ) → IsClosure m n words closure →
    IsClosure m n (narrowed_by m n closure facts) met ↔ IsClosure m n (narrowed_by m n words facts) met

-- ---- facts

-- the network of facts, narrowed by more facts, is the network of them all
abbrev pub AppendedFactsNarrow : Type 0
AppendedFactsNarrow =
    (m : Algebra) (n : ℕ) (words : List ℕ) (facts more : List Fact) → All (λ fact. IsProperPair n fact.i fact.j) more →
    IsNetworkOfFacts m n facts words → IsNetworkOfFacts m n (facts ++ more) (narrowed_by m n words more)

-- ---- scenarios

-- a scenario, read as a network, is closed
abbrev pub ScenarioIsClosed : Type 0
ScenarioIsClosed =
    (m : Algebra) (n : ℕ) (words relations : List ℕ) → IsCalculus m → IsScenario m n words relations →
    IsClosed m n (as_network relations)

-- a closed network of single base relations is a scenario of each network that it refines
abbrev pub ClosedSinglesAreScenario : Type 0
ClosedSinglesAreScenario =
    (m : Algebra) (n : ℕ) (words relations : List ℕ) → IsCalculus m → length relations ≡ edge_count n →
    ((e : ℕ) → e < edge_count n → slice_index relations e < m.size) → IsClosed m n (as_network relations) →
    Refines (as_network relations) words → IsScenario m n words relations

-- the scenarios of a network are those of its closure
abbrev pub ScenarioIsOfClosure : Type 0
ScenarioIsOfClosure =
    (m : Algebra) (n : ℕ) (words closure relations : List ℕ) → IsCalculus m → IsNetwork m n words →
    IsClosure m n words closure → IsScenario m n words relations ↔ IsScenario m n closure relations
