-- Polygons draw a closed network: it can't be that none is theirs.
use Rattle.std.proofs.Common.{◌≡◌, ℕ, ◌+◌, ◌<◌, List, [], length, replicate, slice_index, refl, sym, subst, arith}
use Rattle.std.specs.List.{All}
use Rattle.std.proofs.lemmas.List.{length-map}
use Rattle.std.proofs.lemmas.List.Elements.{All-get_or, All-map}
use Rattle.calculus_table.specs.Composition.{full_of}
use Rattle.calculus_builtin.specs.Rcc8.{rcc8_algebra}
use Rattle.network_words.specs.Edge.{edge_count}
use Rattle.network_words.specs.Network.{Network}
use Rattle.network_words.specs.Scenario.{IsScenario, as_network}
use Rattle.network_words.proofs.Edges.{edge_of}
use Rattle.poly_exact.specs.declared.points.Point.{Point}
use Rattle.geo_facts.specs.PolygonFile.{NamedRing, names_of}
use Rattle.geo_sound.specs.Bases.{IsRegion, IsBaseAt, AreAllBases}
use Rattle.geo_sound.specs.Drawn.{ring_at}
use Rattle.geo_sound.specs.Scene.{vertices_of}
use Rattle.geo_sound.specs.Laws.{SceneIsThere}
use Rattle.geo_sound.proofs.Views.{base_of, rcc8-base}
use Rattle.geo_sound.proofs.There.{matrix-there, list-there}
use Rattle.geo_sound.proofs.Drawings.{bases-relations, bases-scenario}
use Rattle.geo_sound.proofs.DrawnNetworks.{scenario-closed}

module _ (rings : List (List Point)) (regions : (i : ℕ) → i < length rings → IsRegion (ring_at rings i)) where
  base-there : (e : ℕ) → e < edge_count (length rings) → ((base : ℕ) → IsBaseAt rings e base → ⊥) → ⊥
  base-there e l none =
      let k = edge_of (length rings) e l in
      matrix-there (ring_at rings k.first) (ring_at rings k.second) (λ m is. none (base_of m) (record {
        first = k.first;
        second = k.second;
        edge = record { order = k.order; below = k.below; number = k.number };
        is = record {
          first = regions k.first (omega (arith, k.order, k.below));
          second = regions k.second k.below;
          relation = record { matrix = m; is_matrix = is; relation = sym (rcc8-base m) };
        };
      }))

  bases-there : ((bases : List ℕ) → AreAllBases rings bases → ⊥) → ⊥
  bases-there none = list-there (IsBaseAt rings) (edge_count (length rings)) base-there (λ bases len h.
      none bases (record {
        length_is = len;
        bases_are = record {
          each = λ d l.
              let same : d ≡ 0 + d = omega arith in
              subst (λ e. IsBaseAt rings e (slice_index bases d)) same (h d (omega (arith, l, len)));
        };
      }))

pub scene-there : SceneIsThere
scene-there polygons regions none =
    let rings = vertices_of polygons in
    let n = length polygons in
    let all = λ (k : ℕ). replicate (edge_count k) (full_of rcc8_algebra) in
    bases-there rings (λ i l. All-get_or IsRegion rings i [] l (All-map IsRegion (λ p. p.vertices) polygons regions))
    (λ bases are. none (record {
      nodes = n;
      full = full_of rcc8_algebra;
      words = as_network bases;
      names = names_of polygons;
    })
    (record { relations = bases; are_relations = bases-relations rings bases are.length_is are.bases_are; is = refl })
    (scenario-closed n (all n) bases
    (subst (λ k. IsScenario rcc8_algebra k (all k) bases) (length-map polygons (λ p. p.vertices))
    (bases-scenario rings bases are.length_is are.bases_are))))
