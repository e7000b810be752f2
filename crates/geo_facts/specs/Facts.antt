-- The facts that polygons state of a network's nodes: each two of them have the RCC-8 relation of their matrix, which is said of
-- the nodes of their names.
use Rattle.std.specs.Prelude.{◌≡◌, ◌≢◌, ℕ, ◌<◌, List, [], ◌∷◌, ◌++◌, map, slice_get, Some}
use Rattle.std.specs.List.{AllZip}
use Rattle.network_words.specs.declared.fact.Fact.{Fact}
use Rattle.poly_exact.specs.declared.points.Point.{Point}
use Rattle.de9im.specs.declared.matrices.Matrix.{Matrix}
use Rattle.de9im.specs.Matrices.{IsMatrix}
use Rattle.geo_facts.specs.Relating.{rcc8_of}
use Rattle.geo_facts.specs.PolygonFile.{NamedRing}
use Rattle.geo_facts.specs.declared.fault.FactFault.{FactFault}
use Rattle.geo_facts.specs.declared.fault.FactFault.TheVariants.{NoNode, Memory as NoMemory}

-- the set has the one base relation of the two rings
pub record IsRcc8 (vs ws : List Point) (rel : ℕ) : Type 0 where
  pub matrix : Matrix
  pub is_matrix : IsMatrix matrix vs ws
  pub relation : rel ≡ rcc8_of matrix

-- two polygons
pub record RingPair : Type 0 where
  pub first : NamedRing
  pub second : NamedRing

abbrev pub ring_pair : NamedRing → NamedRing → RingPair
ring_pair first second = record { first = first; second = second }

-- the pairs of polygons in order: each with each later one
abbrev pub ring_pairs : List NamedRing → List RingPair
ring_pairs [] = []
ring_pairs (p ∷ ps) = map (ring_pair p) ps ++ ring_pairs ps

-- the fact of two polygons, in a network whose nodes have these names
pub record IsFactOf (names : List (List ℕ)) (pair : RingPair) (fact : Fact) : Type 0 where
  pub first : slice_get names fact.i ≡ Some pair.first.name
  pub second : slice_get names fact.j ≡ Some pair.second.name
  pub relation : IsRcc8 pair.first.vertices pair.second.vertices fact.rel

-- one fact for each pair, in their order
abbrev pub AreFactsOf : List (List ℕ) → List NamedRing → List Fact → Type 0
AreFactsOf names polygons facts = AllZip (IsFactOf names) (ring_pairs polygons) facts

-- the name is no node's
abbrev pub IsNoNode : List (List ℕ) → List ℕ → Type 0
IsNoNode names name = (node : ℕ) → slice_get names node ≢ Some name

-- the name is a node's
pub record IsNode (names : List (List ℕ)) (name : List ℕ) : Type 0 where
  pub node : ℕ
  pub named : slice_get names node ≡ Some name

-- the names of the first polygons are nodes'
abbrev pub AreNodesTo : List (List ℕ) → List (List ℕ) → ℕ → Type 0
AreNodesTo names polygons n = (k : ℕ) (name : List ℕ) → k < n → slice_get polygons k ≡ Some name → IsNode names name

-- the first polygon whose name is no node's
pub record IsFirstStranger (names polygons : List (List ℕ)) (at : ℕ) : Type 0 where
  pub name : List ℕ
  pub there : slice_get polygons at ≡ Some name
  pub stranger : IsNoNode names name
  pub before : AreNodesTo names polygons at

-- why polygons of these names have no facts; out of memory says nothing of them
abbrev pub IsFactFaultOf : List (List ℕ) → List (List ℕ) → FactFault → Type 0
IsFactFaultOf names polygons (NoNode at) = IsFirstStranger names polygons at
IsFactFaultOf names polygons NoMemory = Unit {0}
