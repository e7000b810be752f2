-- The network that polygons draw is one, and closed.
use Rattle.std.proofs.Common.{◌≡◌, ℕ, ◌^◌, List, [], ◌∷◌, length, map, refl, sym, ap, subst, ◌∙◌, arith}
use Rattle.std.specs.Prelude.{slice_index}
use Rattle.std.proofs.lemmas.List.{length-map, ext_get_or}
use Rattle.calculus_table.specs.Rel.{Has}
use Rattle.calculus_table.specs.Composition.{full_of}
use Rattle.calculus_table.proofs.Sets.{Has-single, IsWithin-refl}
use Rattle.calculus_table.proofs.Members.{single-member}
use Rattle.calculus_builtin.specs.Rcc8.{rcc8_algebra}
use Rattle.calculus_builtin.proofs.Rcc8Laws.{rcc8_lawful}
use Rattle.network_words.specs.Network.{Network}
use Rattle.network_words.specs.Closure.{IsClosed}
use Rattle.network_words.specs.Scenario.{IsScenario, as_network}
use Rattle.network_words.proofs.Edges.{edge_of}
use Rattle.network_words.proofs.Scenarios.{IsClosed-as_network}
use Rattle.poly_exact.specs.declared.points.Point.{Point}
use Rattle.geo_facts.specs.Facts.{IsRcc8}
use Rattle.geo_facts.specs.PolygonFile.{named_ring, names_of}
use Rattle.geo_facts.specs.declared.polygon.Polygon.{Polygon}
use Rattle.geo_facts.proofs.OneFacts.{rcc8-one}
use Rattle.geo_sound.specs.Drawn.{ring_at, ring_of, rings_of, AreRelations}
use Rattle.geo_sound.specs.Scene.{IsScene, vertices_of}
use Rattle.geo_sound.specs.Laws.{SceneIsOne, ClosedIsClosure}

-- ---- one network

base-one : (vs ws : List Point) (r s : ℕ) → IsRcc8 vs ws (2 ^ r) → IsRcc8 vs ws (2 ^ s) → r ≡ s
base-one vs ws r s h g = single-member s r (subst (λ x. Has x r) (rcc8-one vs ws (2 ^ r) (2 ^ s) h g) (Has-single r))

relations-one : (rings : List (List Point)) (rs ss : List ℕ) → AreRelations rings rs → AreRelations rings ss → rs ≡ ss
relations-one rings rs ss h g =
    ext_get_or 0 rs ss (h.length_is ∙ sym g.length_is) (λ e l.
    let k = edge_of (length rings) e (omega (arith, l, h.length_is)) in
    subst (λ d. slice_index rs d ≡ slice_index ss d) k.number
    (base-one (ring_at rings k.first) (ring_at rings k.second) _ _ (h.each k.first k.second k.order k.below)
    (g.each k.first k.second k.order k.below)))

pub scene-one : SceneIsOne
scene-one polygons net other h g =
    let same = relations-one (vertices_of polygons) h.relations g.relations h.are_relations g.are_relations in
    let network : List ℕ → Network = λ rs. record {
      nodes = length polygons;
      full = full_of rcc8_algebra;
      words = as_network rs;
      names = names_of polygons;
    } in
    h.is ∙ ap network same ∙ sym g.is

-- ---- it is closed

pub closed-closure : ClosedIsClosure
closed-closure n words closed = record {
  length_is = refl;
  closed = closed;
  within = record { each = λ e. IsWithin-refl (slice_index words e) };
  greatest = λ other len is within. within;
}

pub scenario-closed : (n : ℕ) (words relations : List ℕ) → IsScenario rcc8_algebra n words relations →
    IsClosed rcc8_algebra n (as_network relations)
scenario-closed n words relations s = IsClosed-as_network rcc8_algebra n words relations rcc8_lawful.lawful s

-- ---- polygons with their names

vertices-named : (polygons : List Polygon) → rings_of polygons ≡ vertices_of (map named_ring polygons)
vertices-named [] = refl
vertices-named (p ∷ ps) = ap (λ rs. ring_of p ∷ rs) (vertices-named ps)

pub is_scene : (polygons : List Polygon) (net : Network) (relations : List ℕ) →
    AreRelations (rings_of polygons) relations →
    net ≡ record {
      nodes = length polygons;
      full = full_of rcc8_algebra;
      words = as_network relations;
      names = names_of (map named_ring polygons);
    } → IsScene (map named_ring polygons) net
is_scene polygons net relations h e = record {
  relations = relations;
  are_relations = subst (λ rs. AreRelations rs relations) (vertices-named polygons) h;
  is = e ∙ ap (λ (n : ℕ). record {
    nodes = n;
    full = full_of rcc8_algebra;
    words = as_network relations;
    names = names_of (map named_ring polygons);
  }) (sym (length-map polygons named_ring));
}
