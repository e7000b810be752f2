-- How the facts of polygons are computed: pairs of polygons with their nodes, in pieces.
use Rattle.std.specs.Prelude.{◌≡◌, ℕ, ◌<◌, List, [], ◌∷◌, ◌++◌, map, slice_get, Some, Result, Ok, Err}
use Rattle.std.specs.String.{string_bytes}
use Rattle.std.specs.Prelude.{Vec}
use Rattle.std.specs.Global.{Global}
use Rattle.network_words.specs.declared.fact.Fact.{Fact}
use Rattle.calculus_table.specs.declared.Memory.{Memory}
use Rattle.geo_facts.specs.Facts.{IsRcc8}
use Rattle.geo_facts.specs.declared.polygon.Polygon.{Polygon}
use Rattle.geo_facts.specs.declared.stating.Placed.{Placed}
use Rattle.geo_facts.specs.declared.stating.Pair.{Pair}

-- the polygon, with the node of its name among n nodes of these names
pub record IsPlaced (n : ℕ) (names : List (List ℕ)) (polygon : Polygon) (placed : Placed) : Type 0 where
  pub same : placed.polygon.now ≡ polygon
  pub below : placed.node < n
  pub named : slice_get names placed.node ≡ Some (string_bytes polygon.name)

abbrev pub pair_of : Placed → Placed → Pair
pair_of first second = record { first = first; second = second }

abbrev pub pairs_of : List Placed → List Pair
pairs_of [] = []
pairs_of (p ∷ ps) = map (pair_of p) ps ++ pairs_of ps

-- the fact of a pair
pub record IsPairFact (pair : Pair) (fact : Fact) : Type 0 where
  pub first : fact.i ≡ pair.first.node
  pub second : fact.j ≡ pair.second.node
  pub relation : IsRcc8 pair.first.polygon.now.ring pair.second.polygon.now.ring fact.rel

-- all pieces were computed, and these are their facts one after another
abbrev pub AreJoined : List (Result (Vec Fact Global) Memory) → List Fact → Type 0
AreJoined [] facts = facts ≡ []
AreJoined (Ok piece ∷ pieces) facts = (rest : List Fact) × (facts ≡ piece.items ++ rest) × AreJoined pieces rest
AreJoined (Err fault ∷ pieces) facts = ⊥
