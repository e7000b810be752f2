-- The facts of pairs of polygons, in pieces and together.
use Rattle.std.proofs.Common.{◌≡◌, ◌≢◌, ℕ, zero, suc, ◌+◌, ◌*◌, ◌^◌, ◌<◌, ◌≤◌, List, [], ◌∷◌, ◌++◌, length, map, take, drop, get_or, slice_get, Some, Result, Ok, Err, IfOk, Vec, Global, refl, sym, ap, subst, ◌∙◌, arith}
use Rattle.std.specs.List.{All, AllZip}
use Rattle.std.specs.String.{string_bytes}
use Rattle.std.proofs.Math.Nat.{mul-le-mul}
use Rattle.std.proofs.lemmas.List.{take_more, length-append, length-map, drop-drop, take_all}
use Rattle.std.proofs.lemmas.List.Elements.{All-nil, All-cons}
use Rattle.std.proofs.lemmas.Option.{same_Some}
use Rattle.std.proofs.lemmas.Slice.Zip.{all_zipped_more, AllZip-long}
use Rattle.calculus_table.specs.declared.Memory.{Memory}
use Rattle.calculus_table.specs.Rel.{IsWithin}
use Rattle.calculus_table.specs.Calculus.{AreDistinct}
use Rattle.calculus_table.specs.Composition.{full_of}
use Rattle.calculus_builtin.specs.Rcc8.{rcc8_algebra}
use Rattle.network_words.specs.Edge.{IsProperPair}
use Rattle.geo_facts.proofs.Patterns.{rcc8-within}
use Rattle.network_words.specs.declared.fact.Fact.{Fact}
use Rattle.geo_facts.specs.PolygonFile.{NamedRing, named_ring, names_of}
use Rattle.geo_facts.specs.Facts.{IsRcc8, RingPair, ring_pair, ring_pairs, IsFactOf, AreFactsOf, AreNodesTo}
use Rattle.geo_facts.specs.Pieces.{IsPlaced, pair_of, pairs_of, IsPairFact, AreJoined}
use Rattle.geo_facts.specs.declared.polygon.Polygon.{Polygon}
use Rattle.geo_facts.specs.declared.stating.Placed.{Placed}
use Rattle.geo_facts.specs.declared.stating.Pair.{Pair}

-- ---- a fact of two lists, item by item

pub AllZip-next : {A B : Type 0} (R : A → B → Type 0) (xs : List A) (ys now : List B) (i : ℕ) (x : A) (y : B) → i < length xs → x ≡ get_or xs i x → now ≡ ys ++ y ∷ [] →
    AllZip R (take i xs) ys → R x y → AllZip R (take (i + 1) xs) now
AllZip-next R xs ys now i x y below is e h r =
    let longer : take (i + 1) xs ≡ take i xs ++ x ∷ [] = take_more xs i x below ∙ ap (λ z. take i xs ++ z ∷ []) (sym is) in
    subst (λ zs. AllZip R zs now) (sym longer) (subst (AllZip R (take i xs ++ x ∷ [])) (sym e) (all_zipped_more R (take i xs) ys x y h r))

AllZip-append : {A B : Type 0} (R : A → B → Type 0) (xs us : List A) (ys vs : List B) → AllZip R xs ys → AllZip R us vs → AllZip R (xs ++ us) (ys ++ vs)
AllZip-append R [] us [] vs h k = k
AllZip-append R [] us (y ∷ ys) vs h k = absurd h
AllZip-append R (x ∷ xs) us [] vs h k = absurd h
AllZip-append R (x ∷ xs) us (y ∷ ys) vs h k = (h.0, AllZip-append R xs us ys vs h.1 k)

AllZip-through : {A B C : Type 0} (R : A → B → Type 0) (S : B → C → Type 0) (T : A → C → Type 0) → ((x : A) (y : B) (z : C) → R x y → S y z → T x z) → (xs : List A) (ys : List B) (zs : List C) →
    AllZip R xs ys → AllZip S ys zs → AllZip T xs zs
AllZip-through R S T f [] [] [] h k = tt
AllZip-through R S T f [] [] (z ∷ zs) h k = absurd k
AllZip-through R S T f [] (y ∷ ys) zs h k = absurd h
AllZip-through R S T f (x ∷ xs) [] zs h k = absurd h
AllZip-through R S T f (x ∷ xs) (y ∷ ys) [] h k = absurd k
AllZip-through R S T f (x ∷ xs) (y ∷ ys) (z ∷ zs) h k = (f x y z h.0 k.0, AllZip-through R S T f xs ys zs h.1 k.1)

-- ---- polygons whose names differ

abbrev DifferIn : List RingPair → Type 0
DifferIn [] = Unit {0}
DifferIn (r ∷ rs) = (r.first.name ≢ r.second.name) × DifferIn rs

differ-append : (rs us : List RingPair) → DifferIn rs → DifferIn us → DifferIn (rs ++ us)
differ-append [] us h k = k
differ-append (r ∷ rs) us h k = (h.0, differ-append rs us h.1 k)

differ-first : (p : NamedRing) (ps : List NamedRing) → ((k : ℕ) → k < length ps → Some p.name ≢ slice_get (names_of ps) k) → DifferIn (map (ring_pair p) ps)
differ-first p [] h = tt
differ-first p (q ∷ qs) h = ((λ e. h 0 (omega arith) (ap Some e)), differ-first p qs (λ k less. h (suc k) (omega arith)))

differ-pairs : (ps : List NamedRing) → AreDistinct (names_of ps) → DifferIn (ring_pairs ps)
differ-pairs [] d = tt
differ-pairs (p ∷ ps) d =
    let size : length (names_of ps) ≡ length ps = length-map ps (λ q. q.name) in
    differ-append (map (ring_pair p) ps) (ring_pairs ps) (differ-first p ps (λ k less. d 0 (suc k) (omega arith) (omega (arith, less, size))))
    (differ-pairs ps (λ j k less below. d (suc j) (suc k) (omega arith) (omega arith)))

-- ---- polygons with the nodes of their names

-- the name of a polygon that was read
pub name-read : (polygons : List Polygon) (k : ℕ) (p : Polygon) → k < length polygons → p ≡ get_or polygons k p → slice_get (names_of (map named_ring polygons)) k ≡ Some (string_bytes p.name)
name-read [] k p below is = absurd (omega arith)
name-read (q ∷ qs) zero p below is = ap (λ r. Some (string_bytes r.name)) (sym is)
name-read (q ∷ qs) (suc k) p below is = name-read qs k p (omega arith) is

module _ (n : ℕ) (names : List (List ℕ)) where
  pub placed-nodes : (polygons : List Polygon) (placed : List Placed) (at : ℕ) → AllZip (IsPlaced n names) (take at polygons) placed →
      AreNodesTo names (names_of (map named_ring polygons)) at
  placed-nodes [] placed at h k name less there = cc
  placed-nodes (p ∷ ps) placed zero h k name less there = absurd (omega arith)
  placed-nodes (p ∷ ps) [] (suc at) h k name less there = absurd h
  placed-nodes (p ∷ ps) (q ∷ qs) (suc at) h zero name less there =
      record { node = q.node; named = h.0.named ∙ there }
  placed-nodes (p ∷ ps) (q ∷ qs) (suc at) h (suc k) name less there = placed-nodes ps qs at h.1 k name (omega arith) there

  -- two polygons and their nodes
  record IsPairOf (rings : RingPair) (pair : Pair) : Type 0 where
    first_ring : rings.first ≡ named_ring pair.first.polygon.now
    second_ring : rings.second ≡ named_ring pair.second.polygon.now
    first_below : pair.first.node < n
    second_below : pair.second.node < n
    first_node : slice_get names pair.first.node ≡ Some rings.first.name
    second_node : slice_get names pair.second.node ≡ Some rings.second.name

  pair-placed : (p r : Polygon) (q s : Placed) → IsPlaced n names p q → IsPlaced n names r s → IsPairOf (ring_pair (named_ring p) (named_ring r)) (pair_of q s)
  pair-placed p r q s h k = record {
    first_ring = ap named_ring (sym h.same);
    second_ring = ap named_ring (sym k.same);
    first_below = h.below;
    second_below = k.below;
    first_node = h.named;
    second_node = k.named;
  }

  first-pairs : (p : Polygon) (q : Placed) (ps : List Polygon) (qs : List Placed) → IsPlaced n names p q → AllZip (IsPlaced n names) ps qs →
      AllZip IsPairOf (map (ring_pair (named_ring p)) (map named_ring ps)) (map (pair_of q) qs)
  first-pairs p q [] [] h k = tt
  first-pairs p q [] (s ∷ qs) h k = absurd k
  first-pairs p q (r ∷ ps) [] h k = absurd k
  first-pairs p q (r ∷ ps) (s ∷ qs) h k = (pair-placed p r q s h k.0, first-pairs p q ps qs h k.1)

  all-pairs : (ps : List Polygon) (qs : List Placed) → AllZip (IsPlaced n names) ps qs → AllZip IsPairOf (ring_pairs (map named_ring ps)) (pairs_of qs)
  all-pairs [] [] h = tt
  all-pairs [] (q ∷ qs) h = absurd h
  all-pairs (p ∷ ps) [] h = absurd h
  all-pairs (p ∷ ps) (q ∷ qs) h =
      AllZip-append IsPairOf (map (ring_pair (named_ring p)) (map named_ring ps)) (ring_pairs (map named_ring ps)) (map (pair_of q) qs) (pairs_of qs) (first-pairs p q ps qs h.0 h.1) (all-pairs ps qs h.1)

  fact-of_pair : (rings : RingPair) (pair : Pair) (fact : Fact) → IsPairOf rings pair → IsPairFact pair fact → IsFactOf names rings fact
  fact-of_pair rings pair fact h k = record {
    first = ap (slice_get names) k.first ∙ h.first_node;
    second = ap (slice_get names) k.second ∙ h.second_node;
    relation =
        subst (λ r. IsRcc8 r.vertices rings.second.vertices fact.rel) (sym h.first_ring)
        (subst (λ r. IsRcc8 pair.first.polygon.now.ring r.vertices fact.rel) (sym h.second_ring) k.relation);
  }

  pub facts-stated : (polygons : List Polygon) (placed : List Placed) (pairs : List Pair) (facts : List Fact) → AllZip (IsPlaced n names) polygons placed → pairs ≡ pairs_of placed →
      AllZip IsPairFact pairs facts → AreFactsOf names (map named_ring polygons) facts
  facts-stated polygons placed pairs facts h e k =
      AllZip-through IsPairOf IsPairFact (IsFactOf names) fact-of_pair (ring_pairs (map named_ring polygons)) (pairs_of placed) facts (all-pairs polygons placed h) (subst (λ ps. AllZip IsPairFact ps facts) e k)

  -- the nodes of a fact are there
  record IsBelow (rings : RingPair) (fact : Fact) : Type 0 where
    first : fact.i < n
    second : fact.j < n
    states : IsFactOf names rings fact

  below-of_pair : (rings : RingPair) (pair : Pair) (fact : Fact) → IsPairOf rings pair → IsPairFact pair fact → IsBelow rings fact
  below-of_pair rings pair fact h k = record {
    first = subst (λ i. i < n) (sym k.first) h.first_below;
    second = subst (λ j. j < n) (sym k.second) h.second_below;
    states = fact-of_pair rings pair fact h k;
  }

  facts-below : (polygons : List Polygon) (placed : List Placed) (pairs : List Pair) (facts : List Fact) → AllZip (IsPlaced n names) polygons placed → pairs ≡ pairs_of placed →
      AllZip IsPairFact pairs facts → AllZip IsBelow (ring_pairs (map named_ring polygons)) facts
  facts-below polygons placed pairs facts h e k =
      AllZip-through IsPairOf IsPairFact IsBelow below-of_pair (ring_pairs (map named_ring polygons)) (pairs_of placed) facts (all-pairs polygons placed h) (subst (λ ps. AllZip IsPairFact ps facts) e k)

  proper-fact : (rings : RingPair) (fact : Fact) → rings.first.name ≢ rings.second.name → IsBelow rings fact → IsProperPair n fact.i fact.j
  proper-fact rings fact differ h = record {
    first_below = h.first;
    second_below = h.second;
    differ = λ e. differ (same_Some rings.first.name rings.second.name (sym h.states.first ∙ ap (slice_get names) e ∙ h.states.second));
  }

  proper-facts : (pairs : List RingPair) (facts : List Fact) → DifferIn pairs → AllZip IsBelow pairs facts → All (λ fact. IsProperPair n fact.i fact.j) facts
  proper-facts [] [] d h = All-nil (λ fact. IsProperPair n fact.i fact.j)
  proper-facts [] (f ∷ fs) d h = absurd h
  proper-facts (r ∷ rs) [] d h = absurd h
  proper-facts (r ∷ rs) (f ∷ fs) d h = All-cons (λ fact. IsProperPair n fact.i fact.j) f fs (proper-fact r f d.0 h.0) (proper-facts rs fs d.1 h.1)

  pub facts-proper : (polygons : List Polygon) (placed : List Placed) (pairs : List Pair) (facts : List Fact) → AreDistinct (names_of (map named_ring polygons)) → AllZip (IsPlaced n names) polygons placed → pairs ≡ pairs_of placed →
      AllZip IsPairFact pairs facts → All (λ fact. IsProperPair n fact.i fact.j) facts
  facts-proper polygons placed pairs facts d h e k =
      proper-facts (ring_pairs (map named_ring polygons)) facts (differ-pairs (map named_ring polygons) d) (facts-below polygons placed pairs facts h e k)

-- their sets are those of RCC-8
pub facts-within : (pairs : List Pair) (facts : List Fact) → AllZip IsPairFact pairs facts → All (λ fact. IsWithin fact.rel (full_of rcc8_algebra)) facts
facts-within [] [] h = All-nil (λ fact. IsWithin fact.rel (full_of rcc8_algebra))
facts-within [] (f ∷ fs) h = absurd h
facts-within (p ∷ ps) [] h = absurd h
facts-within (p ∷ ps) (f ∷ fs) h =
    All-cons (λ fact. IsWithin fact.rel (full_of rcc8_algebra)) f fs (subst (λ x. IsWithin x (full_of rcc8_algebra)) (sym h.0.relation.relation) (rcc8-within h.0.relation.matrix)) (facts-within ps fs h.1)

pairs_of-square : (placed : List Placed) → length (pairs_of placed) ≤ length placed * length placed
pairs_of-square [] = omega arith
pairs_of-square (p ∷ ps) =
    omega (arith, length-append (map (pair_of p) ps) (pairs_of ps), length-map ps (pair_of p), pairs_of-square ps)

pub pairs_of-few : (placed : List Placed) → length placed ≤ 128 → length (pairs_of placed) < 2 ^ 32
pairs_of-few placed few =
    let square : length placed * length placed ≤ 128 * 128 = mul-le-mul few few in
    omega (arith, pairs_of-square placed, square)

-- ---- pieces

take-take : {A : Type 0} (m n : ℕ) (xs : List A) → take (m + n) xs ≡ take m xs ++ take n (drop m xs)
take-take zero n xs = let e : zero + n ≡ n = omega arith in ap (λ k. take k xs) e
take-take (suc m) n [] = take_all (suc m + n) [] (omega arith) ∙ sym (take_all n [] (omega arith))
take-take (suc m) n (x ∷ xs) = let e : suc m + n ≡ suc (m + n) = omega arith in ap (λ k. take k (x ∷ xs)) e ∙ ap (λ ys. x ∷ ys) (take-take m n xs)

-- the pieces of this size, as far as they were computed
abbrev pub ArePieces : ℕ → List Pair → List (Result (Vec Fact Global) Memory) → Type 0
ArePieces size pairs pieces = (i : ℕ) (d : Result (Vec Fact Global) Memory) → i < length pieces → IfOk (get_or pieces i d) (λ facts. AllZip IsPairFact (take size (drop (i * size) pairs)) facts.items)

later-pieces : (size : ℕ) (pairs : List Pair) (piece : Result (Vec Fact Global) Memory) (pieces : List (Result (Vec Fact Global) Memory)) → ArePieces size pairs (piece ∷ pieces) → ArePieces size (drop size pairs) pieces
later-pieces size pairs piece pieces h = λ i d less.
    let e : drop (suc i * size) pairs ≡ drop (i * size) (drop size pairs) = (let s : suc i * size ≡ size + i * size = omega arith in ap (λ k. drop k pairs) s ∙ sym (drop-drop (i * size) size pairs)) in
    subst (λ ps. IfOk (get_or pieces i d) (λ facts. AllZip IsPairFact (take size ps) facts.items)) e (h (suc i) d (omega arith))

pub pieces-joined : (size : ℕ) (pairs : List Pair) (pieces : List (Result (Vec Fact Global) Memory)) (facts : List Fact) → ArePieces size pairs pieces → AreJoined pieces facts →
    AllZip IsPairFact (take (length pieces * size) pairs) facts
pieces-joined size pairs [] facts h e =
    let none : length {A = Result (Vec Fact Global) Memory} [] * size ≡ 0 = omega arith in
    subst (λ k. AllZip IsPairFact (take k pairs) facts) (sym none) (subst (AllZip IsPairFact []) (sym e) tt)
pieces-joined size pairs (Err fault ∷ pieces) facts h e = absurd e
pieces-joined size pairs (Ok piece ∷ pieces) facts h e =
    let start : 0 * size ≡ 0 = omega arith in
    let first : AllZip IsPairFact (take size pairs) piece.items = subst (λ k. AllZip IsPairFact (take size (drop k pairs)) piece.items) start (h 0 (Ok piece) (omega arith)) in
    let rest = pieces-joined size (drop size pairs) pieces e.0 (later-pieces size pairs (Ok piece) pieces h) e.2 in
    let size_is : suc (length pieces) * size ≡ size + length pieces * size = omega arith in
    let both = AllZip-append IsPairFact (take size pairs) (take (length pieces * size) (drop size pairs)) piece.items e.0 first rest in
    subst (λ k. AllZip IsPairFact (take k pairs) facts) (sym size_is)
    (subst (λ ps. AllZip IsPairFact ps facts) (sym (take-take size (length pieces * size) pairs)) (subst (AllZip IsPairFact (take size pairs ++ take (length pieces * size) (drop size pairs))) (sym e.1) both))

pub facts-few : (pairs : List Pair) (facts : List Fact) → length pairs < 2 ^ 32 → AllZip IsPairFact pairs facts → length facts < 2 ^ 32
facts-few pairs facts few h = omega (arith, few, AllZip-long IsPairFact pairs facts h)

pub empty-joined : (pieces : List (Result (Vec Fact Global) Memory)) → length pieces < 1 → AreJoined pieces []
empty-joined [] h = refl
empty-joined (piece ∷ pieces) h = absurd (omega arith)
