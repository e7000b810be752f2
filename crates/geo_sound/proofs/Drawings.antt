-- The base relations of all edges are a scenario.
use Rattle.std.proofs.Common.{◌≡◌, ℕ, ◌+◌, ◌<◌, List, [], ◌∷◌, ◌++◌, length, get_or, replicate, sym, ap, subst, ◌∙◌}
use Rattle.std.proofs.Common.{arith, inl, inr}
use Rattle.std.specs.Prelude.{slice_index}
use Rattle.std.proofs.lemmas.Bool.{cases_lt}
use Rattle.std.proofs.lemmas.List.{length-map, length-append, get_or-map, get_or-replicate, get_or_append_left}
use Rattle.std.proofs.lemmas.List.{get_or-append-add}
use Rattle.calculus_table.specs.Rel.{Has}
use Rattle.calculus_table.specs.Composition.{full_of}
use Rattle.calculus_table.proofs.Members.{Has-full}
use Rattle.calculus_builtin.specs.Rcc8.{rcc8_algebra}
use Rattle.network_words.specs.Edge.{edge_count, edge_at}
use Rattle.network_words.specs.Scenario.{IsScenario}
use Rattle.network_words.proofs.Edges.{edge_of, edge_at-lt, edge_at-first, edge_at-second}
use Rattle.poly_exact.specs.declared.points.Point.{Point}
use Rattle.geo_facts.specs.declared.polygon.Polygon.{Polygon}
use Rattle.geo_sound.specs.Drawn.{ring_at, ring_of, rings_of, AreRelations}
use Rattle.geo_sound.specs.Bases.{IsEdge, IsBaseOf, IsBaseAt, AreBases, AreAllBases}
use Rattle.geo_sound.proofs.Triples.{bases-compose, base-below}

-- the ring of polygon number i
pub ring_at-polygon : (polygons : List Polygon) (i : ℕ) (p : Polygon) → i < length polygons → p ≡ get_or polygons i p →
    ring_at (rings_of polygons) i ≡ ring_of p
ring_at-polygon polygons i p less is = get_or-map ring_of polygons i p [] less ∙ ap ring_of (sym is)

pub length-rings_of : (polygons : List Polygon) → length (rings_of polygons) ≡ length polygons
length-rings_of polygons = length-map polygons ring_of

-- the base relation of two polygons is that of their edge
pub base-of_edge : (polygons : List Polygon) (e i j : ℕ) (p q : Polygon) (base : ℕ) → IsEdge (length polygons) e i j →
    p ≡ get_or polygons i p → q ≡ get_or polygons j q →
    IsBaseOf p.ring q.ring base → IsBaseAt (rings_of polygons) e base
base-of_edge polygons e i j p q base edge is_p is_q h =
    let first : ring_of p ≡ ring_at (rings_of polygons) i =
    sym (ring_at-polygon polygons i p (omega (arith, edge.order, edge.below)) is_p) in
    let second : ring_of q ≡ ring_at (rings_of polygons) j = sym (ring_at-polygon polygons j q edge.below is_q) in
    record {
      first = i;
      second = j;
      edge = subst (λ n. IsEdge n e i j) (sym (length-rings_of polygons)) edge;
      is = subst (λ vs. IsBaseOf vs (ring_at (rings_of polygons) j) base) first
          (subst (λ ws. IsBaseOf p.ring ws base) second h);
    }

-- base relations of some rings, one for each edge, are a scenario of each network whose sets have them
module _ (ring : ℕ → List Point) (n : ℕ) (words bases : List ℕ) (count : length bases ≡ edge_count n)
    (each : (i j : ℕ) → i < j → j < n → IsBaseOf (ring i) (ring j) (slice_index bases (edge_at n i j)))
    (member : (e : ℕ) → e < edge_count n → Has (slice_index words e) (slice_index bases e)) where
  below : (e : ℕ) → e < edge_count n → slice_index bases e < 8
  below e l =
      let k = edge_of n e l in
      subst (λ x. slice_index bases x < 8) k.number (base-below _ _ _ (each k.first k.second k.order k.below))

  pub scenario-of : IsScenario rcc8_algebra n words bases
  scenario-of = record {
    length_is = count;
    below = below;
    member = member;
    composes = λ i j k ij jk kn. bases-compose _ _ _ _ _ _ (each i j ij (omega arith)) (each j k jk kn)
        (each i k (omega arith) kn);
  }

module _ (rings : List (List Point)) (bases : List ℕ) (count : length bases ≡ edge_count (length rings))
    (h : AreBases rings 0 bases) where
  base-at : (e : ℕ) → e < length bases → IsBaseAt rings e (slice_index bases e)
  base-at e l = let same : 0 + e ≡ e = omega arith in subst (λ k. IsBaseAt rings k (slice_index bases e)) same
      (h.each e l)

  base-between : (i j : ℕ) → i < j → j < length rings → IsBaseOf (ring_at rings i) (ring_at rings j)
      (slice_index bases (edge_at (length rings) i j))
  base-between i j o b =
      let n = length rings in
      let e = edge_at n i j in
      let k = base-at e (omega (arith, count, edge_at-lt n i j o b)) in
      let first : k.first ≡ i = edge_at-first n k.first k.second i j k.edge.order k.edge.below o b k.edge.number in
      let second : k.second ≡ j = edge_at-second n k.first k.second i j k.edge.order k.edge.below o b k.edge.number in
      subst (λ x. IsBaseOf (ring_at rings x) (ring_at rings j) (slice_index bases e)) first
      (subst (λ x. IsBaseOf (ring_at rings k.first) (ring_at rings x) (slice_index bases e)) second k.is)

  pub bases-relations : AreRelations rings bases
  bases-relations = record { length_is = count; each = λ i j o b. (base-between i j o b).relation }

  member-full : (e : ℕ) → e < edge_count (length rings) →
      Has (slice_index (replicate (edge_count (length rings)) (full_of rcc8_algebra)) e) (slice_index bases e)
  member-full e l =
      let k = base-at e (omega (arith, count)) in
      subst (λ x. Has x (slice_index bases e))
      (sym (get_or-replicate (edge_count (length rings)) e (full_of rcc8_algebra) 0 l))
      (Has-full rcc8_algebra (slice_index bases e) (base-below _ _ _ k.is))

  pub bases-scenario : IsScenario rcc8_algebra (length rings)
      (replicate (edge_count (length rings)) (full_of rcc8_algebra)) bases
  bases-scenario = scenario-of (ring_at rings) (length rings)
      (replicate (edge_count (length rings)) (full_of rcc8_algebra)) bases count base-between member-full

-- those of all edges of polygons
module _ (polygons : List Polygon) (bases : List ℕ) (h : AreAllBases (rings_of polygons) bases) where
  pub drawn-relations : AreRelations (rings_of polygons) bases
  drawn-relations = bases-relations (rings_of polygons) bases h.length_is h.bases_are

  pub drawn-scenario : IsScenario rcc8_algebra (length polygons)
      (replicate (edge_count (length polygons)) (full_of rcc8_algebra)) bases
  drawn-scenario =
      subst (λ n. IsScenario rcc8_algebra n (replicate (edge_count n) (full_of rcc8_algebra)) bases)
      (length-rings_of polygons)
      (bases-scenario (rings_of polygons) bases h.length_is h.bases_are)

-- one more
pub AreBases-push : (rings : List (List Point)) (from : ℕ) (bases : List ℕ) (base : ℕ) → AreBases rings from bases →
    IsBaseAt rings (from + length bases) base → AreBases rings from (bases ++ base ∷ [])
AreBases-push rings from bases base h k = record {
  each = λ d l. elim (cases_lt d (length bases)) [
    | inl x ↦ subst (IsBaseAt rings (from + d)) (sym (get_or_append_left bases (base ∷ []) 0 d x)) (h.each d x)
    | inr y ↦ (let same : length bases ≡ d = omega (arith, l, length-append bases (base ∷ [])) in
        let place : length bases + 0 ≡ d = omega arith in
        subst (λ e. IsBaseAt rings (from + e) (slice_index (bases ++ base ∷ []) e)) place
        (let none : length bases ≡ length bases + 0 = omega arith in
        subst (λ e. IsBaseAt rings (from + e) (slice_index (bases ++ base ∷ []) (length bases + 0))) none
        (subst (IsBaseAt rings (from + length bases)) (sym (get_or-append-add bases (base ∷ []) 0 0)) k)))
  ];
}
