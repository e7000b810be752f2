-- The table of RCC-8 is that of the six rules, and the relations of drawn rings compose by it.
use Rattle.std.specs.Prelude.{◌≡◌, ℕ, ◌^◌, ◌<◌, ◌↔◌, List, All}
use Rattle.calculus_table.specs.Rel.{Has}
use Rattle.calculus_table.specs.Algebra.{entry_at}
use Rattle.calculus_table.specs.Calculus.{AreDistinct}
use Rattle.calculus_builtin.specs.Rcc8.{rcc8_algebra}
use Rattle.poly_exact.specs.declared.points.Point.{Point}
use Rattle.geo_facts.specs.Facts.{IsRcc8, AreFactsOf}
use Rattle.geo_facts.specs.Demo.{demo_ring, IsDemo}
use Rattle.network_words.specs.Network.{Network}
use Rattle.network_words.specs.Facts.{IsNetworkOfFacts}
use Rattle.network_words.specs.declared.fact.Fact.{Fact}
use Rattle.network_words.specs.Scenario.{IsScenario}
use Rattle.network_words.specs.Closure.{IsClosed, IsClosure}
use Rattle.geo_facts.specs.PolygonFile.{NamedRing, names_of}
use Rattle.geo_sound.specs.Scene.{IsScene}
use Rattle.geo_sound.specs.Rules.{FollowRules}
use Rattle.geo_sound.specs.Bases.{IsRegion}

-- t is in r;s exactly where the three follow the rules
abbrev pub TableIsOfRules : Type 0
TableIsOfRules = (r s t : ℕ) → r < 8 → s < 8 → t < 8 → Has (entry_at rcc8_algebra r s) t ↔ FollowRules r s t

-- the relations of three simple rings compose
abbrev pub RingsCompose : Type 0
RingsCompose =
    (us vs ws : List Point) (r s t : ℕ) → IsRegion us → IsRegion vs → IsRegion ws →
    IsRcc8 us vs (2 ^ r) → IsRcc8 vs ws (2 ^ s) → IsRcc8 us ws (2 ^ t) → Has (entry_at rcc8_algebra r s) t

-- the rectangles of a demonstration are simple rings
abbrev pub DemoRingsAreSimple : Type 0
DemoRingsAreSimple = (seed node : ℕ) → IsRegion (demo_ring seed node)

-- the network of a demonstration can hold: it isn't so that no list is a scenario of it
abbrev pub DemoCanHold : Type 0
DemoCanHold =
    (seed n : ℕ) (net : Network) (count : ℕ) → IsDemo seed n net count →
    ((relations : List ℕ) → ¬ IsScenario rcc8_algebra n net.words relations) → ⊥

-- the facts of polygons can hold together, whatever the nodes of their names: it isn't so that no list is a
-- scenario of the network that states them alone
abbrev pub FactsCanHold : Type 0
FactsCanHold =
    (polygons : List NamedRing) (names : List (List ℕ)) (n : ℕ) (facts : List Fact) (words : List ℕ) →
    AreDistinct (names_of polygons) → All (λ p. IsRegion p.vertices) polygons → AreFactsOf names polygons facts →
    IsNetworkOfFacts rcc8_algebra n facts words →
    ((relations : List ℕ) → ¬ IsScenario rcc8_algebra n words relations) → ⊥

-- polygons draw one network at most
abbrev pub SceneIsOne : Type 0
SceneIsOne =
    (polygons : List NamedRing) (net other : Network) → IsScene polygons net → IsScene polygons other → net ≡ other

-- and one at least where their rings are regions, which is closed: it can't be that none is theirs
abbrev pub SceneIsThere : Type 0
SceneIsThere =
    (polygons : List NamedRing) → All (λ p. IsRegion p.vertices) polygons →
    ((net : Network) → IsScene polygons net → IsClosed rcc8_algebra net.nodes net.words → ⊥) → ⊥

-- a closed network is its own closure
abbrev pub ClosedIsClosure : Type 0
ClosedIsClosure = (n : ℕ) (words : List ℕ) → IsClosed rcc8_algebra n words → IsClosure rcc8_algebra n words words
