-- The facts of polygons can hold together: the relations of the rings of the nodes are a scenario of them.
use Rattle.std.proofs.Common.{◌≡◌, ◌≢◌, ◌⊎◌, ℕ, suc, ◌^◌, Bool, true, false, cond, List, [], ◌∷◌, ◌++◌}
use Rattle.std.proofs.Common.{map}
use Rattle.std.proofs.Common.{slice_get, get_or, Some, refl, sym, ap, subst, ◌∙◌, inl, inr, arith}
use Rattle.std.specs.Prelude.{bytes_eq}
use Rattle.std.specs.List.{All, AllZip, AllByRecursion}
use Rattle.std.specs.Cmp.{both_ways}
use Rattle.std.proofs.lemmas.Bool.{cond-true, cond-false, false_from_ne_true}
use Rattle.std.proofs.lemmas.List.Elements.{All-nil, All-cons, All-head, All-tail}
use Rattle.std.proofs.lemmas.Option.{get_or_from_slice_get, slice_get_within}
use Rattle.std.proofs.lemmas.Slice.Eq.{bytes_eq-Decides}
use Rattle.calculus_table.specs.Rel.{Has}
use Rattle.calculus_table.specs.Algebra.{converse_at}
use Rattle.calculus_table.specs.Calculus.{AreDistinct}
use Rattle.calculus_table.specs.Composition.{converse}
use Rattle.calculus_table.proofs.Sets.{Has-single}
use Rattle.calculus_table.proofs.Singles.{converse-single}
use Rattle.calculus_builtin.specs.Rcc8.{rcc8_algebra}
use Rattle.network_words.specs.Facts.{Allows, IsNetworkOfFacts}
use Rattle.network_words.specs.Scenario.{IsScenario}
use Rattle.network_words.specs.declared.fact.Fact.{Fact}
use Rattle.poly_exact.specs.declared.points.Point.{Point}
use Rattle.geo_facts.specs.PolygonFile.{NamedRing, names_of}
use Rattle.geo_facts.specs.Facts.{IsRcc8, RingPair, ring_pair, ring_pairs, IsFactOf, AreFactsOf}
use Rattle.geo_facts.specs.Demo.{demo_ring}
use Rattle.geo_facts.proofs.OneFacts.{rcc8-one}
use Rattle.geo_sound.specs.Bases.{IsRegion}
use Rattle.geo_sound.specs.Laws.{FactsCanHold}
use Rattle.geo_sound.proofs.Views.{IsView, base, base_of, rcc8-base, base_of-below, view-of, view-turned}
use Rattle.geo_sound.proofs.There.{matrix-there, scenario-there}
use Rattle.geo_sound.proofs.Rectangles.{demo-region}

-- ---- the ring of a name: that of its polygon, and some ring where there is none

abbrev ring_named : List NamedRing → List ℕ → List Point
ring_named [] name = demo_ring 0 0
ring_named (p ∷ ps) name = cond (bytes_eq p.name name) p.vertices (ring_named ps name)

region-if : (b : Bool) (vs ws : List Point) → IsRegion vs → IsRegion ws → IsRegion (cond b vs ws)
region-if true vs ws h g = h
region-if false vs ws h g = g

region-named : (ps : List NamedRing) (name : List ℕ) → All (λ p. IsRegion p.vertices) ps →
    IsRegion (ring_named ps name)
region-named [] name h = demo-region 0 0
region-named (p ∷ ps) name h = region-if (bytes_eq p.name name) p.vertices (ring_named ps name)
    (All-head (λ q. IsRegion q.vertices) p ps h) (region-named ps name (All-tail (λ q. IsRegion q.vertices) p ps h))

-- the polygon is one of them
abbrev Among : NamedRing → List NamedRing → Type 0
Among p [] = ⊥
Among p (q ∷ qs) = (p ≡ q) ⊎ Among p qs

at-among : (p : NamedRing) (ps : List NamedRing) → Among p ps →
    (k : ℕ) × (slice_get (names_of ps) k ≡ Some p.name)
at-among p [] a = absurd a
at-among p (q ∷ qs) (inl e) = (0, ap (λ r. Some r.name) (sym e))
at-among p (q ∷ qs) (inr a) = (let at = at-among p qs a in (suc at.0, at.1))

named-ring : (ps : List NamedRing) (p : NamedRing) → AreDistinct (names_of ps) → Among p ps →
    ring_named ps p.name ≡ p.vertices
named-ring [] p distinct a = absurd a
named-ring (q ∷ qs) p distinct (inl e) =
    cond-true (bytes_eq q.name p.name) _ _ ((bytes_eq-Decides q.name p.name).1 (sym (ap (λ r. r.name) e)))
    ∙ sym (ap (λ r. r.vertices) e)
named-ring (q ∷ qs) p distinct (inr a) =
    let at = at-among p qs a in
    let within = slice_get_within (names_of qs) at.0 p.name at.1 in
    let other : q.name ≢ p.name = λ e. distinct 0 (suc at.0) (omega arith) (omega (arith, within))
    (ap Some e ∙ sym at.1) in
    let differ : bytes_eq q.name p.name ≡ false =
    false_from_ne_true (bytes_eq q.name p.name) (λ e. other ((bytes_eq-Decides q.name p.name).0 e)) in
    cond-false (bytes_eq q.name p.name) _ _ differ
    ∙ named-ring qs p (λ j k less below. distinct (suc j) (suc k) (omega arith) (omega arith)) a

-- ---- each fact is of two of the polygons

abbrev AreAmong : List NamedRing → RingPair → Type 0
AreAmong ps pair = Among pair.first ps × Among pair.second ps

each-append : {A : Type 0} (P : A → Type 0) (xs ys : List A) → AllByRecursion P xs → AllByRecursion P ys →
    AllByRecursion P (xs ++ ys)
each-append P [] ys h g = g
each-append P (x ∷ xs) ys h g = (h.0, each-append P xs ys h.1 g)

pairs-with : (q : NamedRing) (ps all : List NamedRing) → ((p : NamedRing) → Among p ps → Among p all) → Among q all →
    AllByRecursion (AreAmong all) (map (ring_pair q) ps)
pairs-with q [] all f a = tt
pairs-with q (p ∷ ps) all f a = ((a, f p (inl refl)), pairs-with q ps all (λ r i. f r (inr i)) a)

pairs-among : (ps all : List NamedRing) → ((p : NamedRing) → Among p ps → Among p all) →
    AllByRecursion (AreAmong all) (ring_pairs ps)
pairs-among [] all f = tt
pairs-among (p ∷ ps) all f = each-append (AreAmong all) (map (ring_pair p) ps) (ring_pairs ps)
    (pairs-with p ps all (λ r i. f r (inr i)) (f p (inl refl))) (pairs-among ps all (λ r i. f r (inr i)))

facts-each : {A B : Type 0} (R : A → B → Type 0) (P : A → Type 0) (Q : B → Type 0) (xs : List A) (ys : List B) →
    ((x : A) (y : B) → P x → R x y → Q y) → AllByRecursion P xs → AllZip R xs ys → All Q ys
facts-each R P Q [] [] f h g = All-nil Q
facts-each R P Q [] (y ∷ ys) f h g = absurd g
facts-each R P Q (x ∷ xs) [] f h g = absurd g
facts-each R P Q (x ∷ xs) (y ∷ ys) f h g = All-cons Q y ys (f x y h.0 g.0) (facts-each R P Q xs ys f h.1 g.1)

-- ---- the relation of two rings, the other way round

view-one : (vs ws : List Point) (r s : ℕ) → IsView vs ws r → IsView vs ws s → r ≡ s
view-one vs ws r s v w =
    let ii : v.ii ≡ w.ii = both_ways v.ii w.ii (λ e. w.are_apart.1 (v.are_apart.0 e))
    (λ e. v.are_apart.1 (w.are_apart.0 e)) in
    let ie : v.ie ≡ w.ie = both_ways v.ie w.ie (λ e. w.is_part.1 (v.is_part.0 e)) (λ e. v.is_part.1 (w.is_part.0 e)) in
    let ei : v.ei ≡ w.ei = both_ways v.ei w.ei (λ e. w.is_whole.1 (v.is_whole.0 e))
    (λ e. v.is_whole.1 (w.is_whole.0 e)) in
    let bb : v.bb ≡ w.bb = both_ways v.bb w.bb (λ e. w.are_unmet.1 (v.are_unmet.0 e))
    (λ e. v.are_unmet.1 (w.are_unmet.0 e)) in
    v.is ∙ (λ k. base (ii k) (ie k) (ei k) (bb k)) ∙ sym w.is

turned-has : (vs ws : List Point) (rel b : ℕ) → IsRcc8 vs ws rel → IsRcc8 ws vs (2 ^ b) →
    Has (converse rcc8_algebra rel) b
turned-has vs ws rel b h is =
    let other : ℕ = base_of h.matrix in
    let same : rel ≡ 2 ^ other = h.relation ∙ rcc8-base h.matrix in
    let turned = view-turned vs ws other (view-of vs ws other (subst (IsRcc8 vs ws) same h)) in
    let number : b ≡ converse_at rcc8_algebra other = view-one ws vs b _ (view-of ws vs b is) turned in
    let single : converse rcc8_algebra rel ≡ 2 ^ converse_at rcc8_algebra other =
    ap (converse rcc8_algebra) same ∙ converse-single rcc8_algebra other (base_of-below h.matrix) in
    subst (λ x. Has x b) (ap (λ k. 2 ^ k) number ∙ sym single) (Has-single b)

-- ---- the network of the facts

module _ (polygons : List NamedRing) (names : List (List ℕ)) (n : ℕ) (facts : List Fact) (words : List ℕ)
    (distinct : AreDistinct (names_of polygons)) (regions : All (λ p. IsRegion p.vertices) polygons)
    (told : AreFactsOf names polygons facts) (net : IsNetworkOfFacts rcc8_algebra n facts words) where
  -- the ring of a node
  abbrev ring : ℕ → List Point
  ring k = ring_named polygons (get_or names k [])

  ring-region : (k : ℕ) → IsRegion (ring k)
  ring-region k = region-named polygons (get_or names k []) regions

  ring-node : (k : ℕ) (p : NamedRing) → Among p polygons → slice_get names k ≡ Some p.name → ring k ≡ p.vertices
  ring-node k p a h = ap (ring_named polygons) (get_or_from_slice_get names k p.name [] h)
      ∙ named-ring polygons p distinct a

  -- a fact is that of its nodes' rings
  abbrev IsOfRings : Fact → Type 0
  IsOfRings f = IsRcc8 (ring f.i) (ring f.j) f.rel

  of_rings : (pair : RingPair) (f : Fact) → AreAmong polygons pair → IsFactOf names pair f → IsOfRings f
  of_rings pair f a h =
      subst (λ vs. IsRcc8 vs (ring f.j) f.rel) (sym (ring-node f.i pair.first a.0 h.first))
      (subst (λ ws. IsRcc8 pair.first.vertices ws f.rel) (sym (ring-node f.j pair.second a.1 h.second)) h.relation)

  allowed : (i j b : ℕ) → IsRcc8 (ring i) (ring j) (2 ^ b) → (f : Fact) → IsOfRings f → Allows rcc8_algebra i j b f
  allowed i j b is f h = record {
    forward = λ first second.
        let here = subst (λ k. IsRcc8 (ring i) (ring k) f.rel) second
        (subst (λ k. IsRcc8 (ring k) (ring f.j) f.rel) first h) in
        subst (λ x. Has x b) (rcc8-one (ring i) (ring j) (2 ^ b) f.rel is here) (Has-single b);
    backward = λ first second.
        let here = subst (λ k. IsRcc8 (ring j) (ring k) f.rel) second
        (subst (λ k. IsRcc8 (ring k) (ring f.j) f.rel) first h) in
        turned-has (ring j) (ring i) f.rel b here is;
  }

  all-allowed : (i j b : ℕ) → IsRcc8 (ring i) (ring j) (2 ^ b) → All (Allows rcc8_algebra i j b) facts
  all-allowed i j b is = facts-each (IsFactOf names) (AreAmong polygons) (Allows rcc8_algebra i j b)
      (ring_pairs polygons) facts (λ pair f a h. allowed i j b is f (of_rings pair f a h))
      (pairs-among polygons polygons (λ p a. a)) told

  held : ((relations : List ℕ) → ¬ IsScenario rcc8_algebra n words relations) → ⊥
  held = scenario-there ring n words (λ i j o l no. matrix-there (ring i) (ring j) (λ m is.
      let rel : IsRcc8 (ring i) (ring j) (2 ^ base_of m) =
      record { matrix = m; is_matrix = is; relation = sym (rcc8-base m) } in
      no (base_of m) (record { first = ring-region i; second = ring-region j; relation = rel })
      ((net.members i j (base_of m) o l).1 (base_of-below m, all-allowed i j (base_of m) rel))))

pub facts-can_hold : FactsCanHold
facts-can_hold polygons names n facts words distinct regions told net =
    held polygons names n facts words distinct regions told net
