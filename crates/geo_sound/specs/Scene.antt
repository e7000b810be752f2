-- The network that polygons draw.
use Rattle.std.specs.Prelude.{◌≡◌, ℕ, List, length, map}
use Rattle.calculus_table.specs.Composition.{full_of}
use Rattle.calculus_builtin.specs.Rcc8.{rcc8_algebra}
use Rattle.network_words.specs.Network.{Network}
use Rattle.network_words.specs.Scenario.{as_network}
use Rattle.poly_exact.specs.declared.points.Point.{Point}
use Rattle.geo_facts.specs.PolygonFile.{NamedRing, names_of}
use Rattle.geo_sound.specs.Drawn.{AreRelations}

abbrev pub vertices_of : List NamedRing → List (List Point)
vertices_of polygons = map (λ p. p.vertices) polygons

-- its nodes have the polygons' names, and each edge has the base relation of its polygons alone
pub record IsScene (polygons : List NamedRing) (net : Network) : Type 0 where
  pub relations : List ℕ
  pub are_relations : AreRelations (vertices_of polygons) relations
  pub is : net ≡ record {
    nodes = length polygons;
    full = full_of rcc8_algebra;
    words = as_network relations;
    names = names_of polygons;
  }
