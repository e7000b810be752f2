-- Texts of pairs of polygons one after another, and the name of the relation of a matrix.
use Rattle.std.proofs.Common.{◌≡◌, ℕ, suc, ◌+◌, ◌-◌, ◌^◌, ◌<◌, ◌≤◌, Bool, true, false, cond, List, [], ◌∷◌, ◌++◌, length, map, take, drop, get_or, Option, slice_get, Some, refl, sym, ap, subst, ◌∙◌, append_assoc, inl, inr, arith}
use Rattle.std.proofs.lemmas.List.{append-nil, take_more, take_all, map_push}
use Rattle.calculus_table.specs.Rel.{Has}
use Rattle.calculus_table.proofs.Members.{single-member}
use Rattle.calculus_builtin.specs.Rcc8.{dc, ec, po, tpp, ntpp, tppi, ntppi, eq, rcc8_names}
use Rattle.de9im.specs.declared.matrices.Matrix.{Matrix}
use Rattle.de9im.specs.Matrices.{IsMatrix}
use Rattle.de9im.specs.declared.patterns.Want.{Want}
use Rattle.geo_facts.specs.declared.polygon.Polygon.{Polygon}
use Rattle.geo_facts.specs.PolygonFile.{NamedRing, named_ring}
use Rattle.geo_facts.specs.Facts.{RingPair, ring_pair, ring_pairs}
use Rattle.geo_facts.specs.Relating.{is_empty, rcc8_of}
use Rattle.qsr_answers.specs.Relations.{IsAskedFor, IsLineOf, IsPartOf, IsTextOfPairs, IsGrownBy, IsRelationName}

module _ (pattern : Option (List Want)) where
  -- a text of pairs, and then one of more pairs
  pub IsTextOfPairs-append : (pairs more : List RingPair) (a b : List ℕ) → IsTextOfPairs pattern pairs a → IsTextOfPairs pattern more b → IsTextOfPairs pattern (pairs ++ more) (a ++ b)
  IsTextOfPairs-append [] more a b h k = subst (λ x. IsTextOfPairs pattern more (x ++ b)) (sym h) k
  IsTextOfPairs-append (pair ∷ pairs) more a b h k = record {
    matrix = h.matrix;
    is_matrix = h.is_matrix;
    part = h.part;
    is_part = h.is_part;
    rest = h.rest ++ b;
    is_rest = IsTextOfPairs-append pairs more h.rest b h.is_rest k;
    text_is = ap (λ x. x ++ b) h.text_is ∙ append_assoc h.part h.rest b;
  }

  pub grown-more : (pairs more : List RingPair) (old mid new : List ℕ) → IsGrownBy old mid (IsTextOfPairs pattern pairs) → IsGrownBy mid new (IsTextOfPairs pattern more) →
      IsGrownBy old new (IsTextOfPairs pattern (pairs ++ more))
  grown-more pairs more old mid new h k = record {
    part = h.part ++ k.part;
    is = IsTextOfPairs-append pairs more h.part k.part h.is k.is;
    grown = k.grown ∙ ap (λ x. x ++ k.part) h.grown ∙ append_assoc old h.part k.part;
  }

  pub grown-none : (text : List ℕ) → IsGrownBy text text (IsTextOfPairs pattern [])
  grown-none text = record { part = []; is = refl; grown = sym (append-nil text) }

  -- the text of one pair
  one_pair : (pair : RingPair) (m : Matrix) (text : List ℕ) → IsMatrix m pair.first.vertices pair.second.vertices → IsPartOf pattern pair m text → IsTextOfPairs pattern (pair ∷ []) text
  one_pair pair m text is part = record {
    matrix = m;
    is_matrix = is;
    part = text;
    is_part = part;
    rest = [];
    is_rest = refl;
    text_is = sym (append-nil text);
  }

  module _ (pair : RingPair) (m : Matrix) (is : IsMatrix m pair.first.vertices pair.second.vertices) where
    pub line_grown : (old new : List ℕ) → IsAskedFor pattern m → IsGrownBy old new (IsLineOf pair m) → IsGrownBy old new (IsTextOfPairs pattern (pair ∷ []))
    line_grown old new asked h = record { part = h.part; is = one_pair pair m h.part is (inl (asked, h.is)); grown = h.grown }

    pub nothing_grown : (text : List ℕ) → (IsAskedFor pattern m → ⊥) → IsGrownBy text text (IsTextOfPairs pattern (pair ∷ []))
    nothing_grown text other = record { part = []; is = one_pair pair m [] is (inr (other, refl)); grown = sym (append-nil text) }

  -- the pairs of a polygon with the first later ones, and with one more
  pub next_pair : (first : NamedRing) (later : List Polygon) (i : ℕ) (second : Polygon) (old mid new : List ℕ) → i < length later → second ≡ get_or later i second →
      IsGrownBy old mid (IsTextOfPairs pattern (map (ring_pair first) (map named_ring (take i later)))) → IsGrownBy mid new (IsTextOfPairs pattern (ring_pair first (named_ring second) ∷ [])) →
      IsGrownBy old new (IsTextOfPairs pattern (map (ring_pair first) (map named_ring (take (i + 1) later))))
  next_pair first later i second old mid new below is h k =
      let longer : take (i + 1) later ≡ take i later ++ second ∷ [] = take_more later i second below ∙ ap (λ z. take i later ++ z ∷ []) (sym is) in
      let pairs : map (ring_pair first) (map named_ring (take (i + 1) later)) ≡ map (ring_pair first) (map named_ring (take i later)) ++ ring_pair first (named_ring second) ∷ [] =
      ap (λ z. map (ring_pair first) (map named_ring z)) longer ∙ ap (map (ring_pair first)) (map_push named_ring (take i later) second)
      ∙ map_push (ring_pair first) (map named_ring (take i later)) (named_ring second) in
      subst (λ z. IsGrownBy old new (IsTextOfPairs pattern z)) (sym pairs)
      (grown-more (map (ring_pair first) (map named_ring (take i later))) (ring_pair first (named_ring second) ∷ []) old mid new h k)

  -- with the text of some polygons, the text so far is that of all pairs
  abbrev pub Completes : List RingPair → List ℕ → List NamedRing → Type 0
  Completes pairs text rest = (more : List ℕ) → IsTextOfPairs pattern (ring_pairs rest) more → IsTextOfPairs pattern pairs (text ++ more)

  pub next_polygon : (pairs : List RingPair) (polygons later : List Polygon) (first : Polygon) (old new : List ℕ) → polygons ≡ first ∷ later → Completes pairs old (map named_ring polygons) →
      IsGrownBy old new (IsTextOfPairs pattern (map (ring_pair (named_ring first)) (map named_ring later))) → Completes pairs new (map named_ring later)
  next_polygon pairs polygons later first old new e h k = λ more rest.
      let rings : List NamedRing = map named_ring later in
      let text = IsTextOfPairs-append (map (ring_pair (named_ring first)) rings) (ring_pairs rings) k.part more k.is rest in
      let all = subst (λ ps. Completes pairs old (map named_ring ps)) e h (k.part ++ more) text in
      subst (λ x. IsTextOfPairs pattern pairs (x ++ more)) (sym k.grown) (subst (IsTextOfPairs pattern pairs) (sym (append_assoc old k.part more)) all)

  pub no_polygon : (pairs : List RingPair) (polygons : List Polygon) (text : List ℕ) → length polygons < 1 → Completes pairs text (map named_ring polygons) → IsTextOfPairs pattern pairs text
  no_polygon pairs [] text few h = subst (IsTextOfPairs pattern pairs) (append-nil text) (h [] refl)
  no_polygon pairs (first ∷ later) text few h = absurd (omega arith)

-- a list with its first item and the others
pub first_and_later : {A : Type 0} (xs : List A) (x : A) → 1 ≤ length xs → x ≡ get_or xs 0 x → xs ≡ x ∷ take (length xs - 1) (drop 1 xs)
first_and_later [] x some is = absurd (omega arith)
first_and_later (y ∷ ys) x some is =
    let size : suc (length ys) - 1 ≡ length ys = omega arith in
    ap (λ z. z ∷ ys) (sym is) ∙ ap (λ zs. x ∷ zs) (sym (take_all (length ys) ys (omega arith))) ∙ ap (λ k. x ∷ take k ys) (sym size)

-- ---- the relation of a matrix

-- the set has one base relation of RCC-8
pub record IsOneBase (a : ℕ) : Type 0 where
  pub base : ℕ
  pub below : base < 8
  pub is : a ≡ 2 ^ base

one_base : (ii bb ie ei : Bool) →
    IsOneBase (cond ii (cond bb dc ec) (cond ie (cond ei eq (cond bb ntpp tpp)) (cond ei (cond bb ntppi tppi) po)))
one_base true true ie ei = record { base = 0; below = omega arith; is = refl }
one_base true false ie ei = record { base = 1; below = omega arith; is = refl }
one_base false bb true true = record { base = 7; below = omega arith; is = refl }
one_base false true true false = record { base = 4; below = omega arith; is = refl }
one_base false false true false = record { base = 3; below = omega arith; is = refl }
one_base false true false true = record { base = 6; below = omega arith; is = refl }
one_base false false false true = record { base = 5; below = omega arith; is = refl }
one_base false bb false false = record { base = 2; below = omega arith; is = refl }

pub rcc8-base : (m : Matrix) → IsOneBase (rcc8_of m)
rcc8-base m = one_base (is_empty m.ii) (is_empty m.bb) (is_empty m.ie) (is_empty m.ei)

module _ (m : Matrix) (a r : ℕ) (is : a ≡ rcc8_of m) (member : Has a r) where
  -- the one member of the set is its base relation
  member_is : r ≡ (rcc8-base m).base
  member_is = single-member (rcc8-base m).base r (subst (λ x. Has x r) (is ∙ (rcc8-base m).is) member)

  pub member-below : r < 8
  member-below = let base = rcc8-base m in omega (arith, member_is, base.below)

  pub relation_named : (name : List ℕ) → slice_get rcc8_names r ≡ Some name → IsRelationName m name
  relation_named name named = record {
    base = r;
    is_base = (rcc8-base m).is ∙ ap (λ k. 2 ^ k) (sym member_is);
    named = named;
  }
