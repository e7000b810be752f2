-- Laws of polygon files, of the facts of polygons, and of the networks of demonstrations.
use Rattle.std.specs.Prelude.{◌≡◌, ◌⊎◌, ℕ, List, length}
use Rattle.std.specs.List.{All}
use Rattle.calculus_table.specs.Rel.{IsWithin}
use Rattle.calculus_table.specs.Calculus.{AreDistinct}
use Rattle.calculus_table.specs.Composition.{full_of}
use Rattle.calculus_builtin.specs.Rcc8.{rcc8_algebra}
use Rattle.network_words.specs.Network.{Network, IsNetwork}
use Rattle.network_words.specs.declared.fact.Fact.{Fact}
use Rattle.poly_exact.specs.declared.points.Point.{Point}
use Rattle.geo_facts.specs.PolygonFile.{NamedRing, IsFileOf, IsFileFault}
use Rattle.geo_facts.specs.Facts.{IsRcc8, AreFactsOf, AreNodesTo, IsFirstStranger}
use Rattle.geo_facts.specs.Demo.{IsDemo}
use Rattle.geo_facts.specs.declared.fault.GeoFault.{GeoFault}

-- ---- polygon files

-- a text is the file of one list of polygons at most
abbrev pub FileIsOne : Type 0
FileIsOne = (bytes : List ℕ) (polygons others : List NamedRing) → IsFileOf bytes polygons → IsFileOf bytes others → polygons ≡ others

-- a text has one fault at most
abbrev pub FaultIsOne : Type 0
FaultIsOne = (bytes : List ℕ) (fault other : GeoFault) → IsFileFault bytes fault → IsFileFault bytes other → fault ≡ other

-- a file has none
abbrev pub FileHasNoFault : Type 0
FileHasNoFault = (bytes : List ℕ) (polygons : List NamedRing) (fault : GeoFault) → IsFileOf bytes polygons → IsFileFault bytes fault → ⊥

-- a text is a file
pub record IsFile (bytes : List ℕ) : Type 0 where
  pub polygons : List NamedRing
  pub is : IsFileOf bytes polygons

-- a text has a fault
pub record HasFault (bytes : List ℕ) : Type 0 where
  pub fault : GeoFault
  pub is : IsFileFault bytes fault

-- each text is a file or has a fault
abbrev pub FileHasAnswer : Type 0
FileHasAnswer = (bytes : List ℕ) → IsFile bytes ⊎ HasFault bytes

-- ---- facts of polygons

-- two rings have one relation at most
abbrev pub Rcc8IsOne : Type 0
Rcc8IsOne = (vs ws : List Point) (rel other : ℕ) → IsRcc8 vs ws rel → IsRcc8 vs ws other → rel ≡ other

-- where the names of the nodes differ, polygons have one list of facts at most
abbrev pub FactsAreOne : Type 0
FactsAreOne =
    (names : List (List ℕ)) (polygons : List NamedRing) (facts others : List Fact) → AreDistinct names →
    AreFactsOf names polygons facts → AreFactsOf names polygons others → facts ≡ others

-- the sets of the facts are sets of RCC-8
abbrev pub FactsAreProper : Type 0
FactsAreProper =
    (names : List (List ℕ)) (polygons : List NamedRing) (facts : List Fact) → AreFactsOf names polygons facts →
    All (λ fact. IsWithin fact.rel (full_of rcc8_algebra)) facts

-- one polygon at most is the first whose name is no node's
abbrev pub FactFaultIsOne : Type 0
FactFaultIsOne =
    (names polygons : List (List ℕ)) (at other : ℕ) → IsFirstStranger names polygons at →
    IsFirstStranger names polygons other → at ≡ other

-- where the names of all polygons are nodes', there is none
abbrev pub NodesHaveNoFault : Type 0
NodesHaveNoFault =
    (names polygons : List (List ℕ)) (at : ℕ) → AreNodesTo names polygons (length polygons) →
    IsFirstStranger names polygons at → ⊥

-- ---- demonstrations

-- a seed and a number of nodes have one network at most, and one count
abbrev pub DemoIsOne : Type 0
DemoIsOne =
    (seed n : ℕ) (net other : Network) (count other_count : ℕ) → IsDemo seed n net count →
    IsDemo seed n other other_count → (net ≡ other) × (count ≡ other_count)

-- it has a set of RCC-8 for each edge
abbrev pub DemoIsNetwork : Type 0
DemoIsNetwork =
    (seed n : ℕ) (net : Network) (count : ℕ) → IsDemo seed n net count → IsNetwork rcc8_algebra n net.words
