-- What the base relation of two rings says of their common places.
use Rattle.std.proofs.Common.{◌≡◌, ◌≢◌, ◌↔◌, ℕ, ◌^◌, ◌<◌, Bool, true, false, not, cond, ◌&&◌, refl, sym, ap, subst}
use Rattle.std.proofs.Common.{◌∙◌, inl, inr, arith, true≢false, List}
use Rattle.std.specs.Int.{bit_at}
use Rattle.std.proofs.lemmas.Bool.{and_parts, and_from, eqb-true, eq-eqb, false_from_ne_true, not_from_false, not-true}
use Rattle.calculus_table.specs.Rel.{Has}
use Rattle.calculus_table.specs.Algebra.{converse_at}
use Rattle.calculus_table.proofs.Sets.{Has-single, not_Has-empty}
use Rattle.calculus_table.proofs.Members.{single-member}
use Rattle.calculus_builtin.specs.Rcc8.{dc, ec, po, tpp, ntpp, tppi, ntppi, eq, rcc8_algebra}
use Rattle.poly_exact.specs.declared.points.Point.{Point}
use Rattle.poly_exact.specs.Places.{Place}
use Rattle.poly_exact.specs.Rings.{IsOnRing, IsInRing, IsOutOfRing}
use Rattle.poly_exact.specs.Met.{Shares}
use Rattle.de9im.specs.declared.matrices.Dim.{Dim}
use Rattle.de9im.specs.declared.matrices.Dim.TheVariants as dim
use Rattle.de9im.specs.declared.matrices.Matrix.{Matrix}
use Rattle.de9im.specs.Matrix.{Common}
use Rattle.de9im.specs.Scans.{EdgePair}
use Rattle.de9im.specs.Matrices.{IsEntry, IsBoundaryEntry}
use Rattle.de9im.proofs.Commons.{Common-swap}
use Rattle.geo_facts.specs.Relating.{is_empty, rcc8_of}
use Rattle.geo_facts.specs.Facts.{IsRcc8}
use Rattle.geo_sound.specs.Rules.{parts, inner_parts, apart, far_apart}
use Rattle.geo_sound.specs.Bases.{IsRegion}
use Rattle.geo_sound.proofs.Regions.{HasNone, IsUnmet, apart-no_part}
use Rattle.geo_sound.proofs.Rules.{has}

-- ---- the base relation by what is empty: the common inner places, those of each ring out of the other, and
-- ---- the common places of the boundaries

abbrev pub base : Bool → Bool → Bool → Bool → ℕ
base ii ie ei bb = cond ii (cond bb 0 1) (cond ie (cond ei 7 (cond bb 4 3)) (cond ei (cond bb 6 5) 2))

abbrev set : Bool → Bool → Bool → Bool → ℕ
set ii ie ei bb = cond ii (cond bb dc ec) (cond ie (cond ei eq (cond bb ntpp tpp)) (cond ei (cond bb ntppi tppi) po))

record Reads (ii ie ei bb : Bool) : Type 0 where
  below : base ii ie ei bb < 8
  is_set : set ii ie ei bb ≡ 2 ^ base ii ie ei bb
  turned : converse_at rcc8_algebra (base ii ie ei bb) ≡ base ii ei ie bb
  part : has parts (base ii ie ei bb) ≡ (not ii && ie)
  apart_is : has apart (base ii ie ei bb) ≡ ii
  inner : has inner_parts (base ii ie ei bb) ≡ (not ii && (ie && (not ei && bb)))
  far : has far_apart (base ii ie ei bb) ≡ (ii && bb)

reads : (ii ie ei bb : Bool) → Reads ii ie ei bb
reads true ie ei true = record {
  below = omega arith;
  is_set = refl;
  turned = refl;
  part = refl;
  apart_is = refl;
  inner = refl;
  far = refl;
}
reads true ie ei false = record {
  below = omega arith;
  is_set = refl;
  turned = refl;
  part = refl;
  apart_is = refl;
  inner = refl;
  far = refl;
}
reads false true true bb = record {
  below = omega arith;
  is_set = refl;
  turned = refl;
  part = refl;
  apart_is = refl;
  inner = refl;
  far = refl;
}
reads false true false true = record {
  below = omega arith;
  is_set = refl;
  turned = refl;
  part = refl;
  apart_is = refl;
  inner = refl;
  far = refl;
}
reads false true false false = record {
  below = omega arith;
  is_set = refl;
  turned = refl;
  part = refl;
  apart_is = refl;
  inner = refl;
  far = refl;
}
reads false false true true = record {
  below = omega arith;
  is_set = refl;
  turned = refl;
  part = refl;
  apart_is = refl;
  inner = refl;
  far = refl;
}
reads false false true false = record {
  below = omega arith;
  is_set = refl;
  turned = refl;
  part = refl;
  apart_is = refl;
  inner = refl;
  far = refl;
}
reads false false false bb = record {
  below = omega arith;
  is_set = refl;
  turned = refl;
  part = refl;
  apart_is = refl;
  inner = refl;
  far = refl;
}

abbrev pub base_of : Matrix → ℕ
base_of m = base (is_empty m.ii) (is_empty m.ie) (is_empty m.ei) (is_empty m.bb)

pub rcc8-base : (m : Matrix) → rcc8_of m ≡ 2 ^ base_of m
rcc8-base m = (reads (is_empty m.ii) (is_empty m.ie) (is_empty m.ei) (is_empty m.bb)).is_set

pub base_of-below : (m : Matrix) → base_of m < 8
base_of-below m = (reads (is_empty m.ii) (is_empty m.ie) (is_empty m.ei) (is_empty m.bb)).below

-- a member of a matrix's set is its base relation
pub member-base : (m : Matrix) (k : ℕ) → Has (rcc8_of m) k → k ≡ base_of m
member-base m k h = single-member (base_of m) k (subst (λ x. Has x k) (rcc8-base m) h)

pub member-rcc8 : (m : Matrix) (x k : ℕ) → x ≡ rcc8_of m → Has x k → 2 ^ k ≡ rcc8_of m
member-rcc8 m x k e h = ap (λ n. 2 ^ n) (member-base m k (subst (λ y. Has y k) e h)) ∙ sym (rcc8-base m)

pub rcc8-some : (m : Matrix) (x : ℕ) → x ≡ rcc8_of m → x ≢ 0
rcc8-some m x e z =
    not_Has-empty (base_of m) (subst (λ y. Has y (base_of m)) (sym (rcc8-base m) ∙ sym e ∙ z) (Has-single (base_of m)))

-- ---- what an empty entry says

empty-entry : (entry d : Dim) (thing : Type 0) → is_empty d ≡ false → IsEntry entry d thing →
    (is_empty entry ≡ true) ↔ (thing → ⊥)
empty-entry entry d thing full (inl h) = (λ e x. true≢false (sym e ∙ ap is_empty h.0 ∙ full), λ none. absurd (none h.1))
empty-entry entry d thing full (inr h) = (λ e. h.1, λ none. ap is_empty h.0)

shared-common : (vs ws : List Point) → EdgePair vs ws Shares → Common (IsOnRing vs) (IsOnRing ws)
shared-common vs ws h = record {
  place = h.holds.p;
  weight = h.holds.weight_p;
  first = record { edge = h.e; below = h.below_e; on = h.holds.first_p };
  second = record { edge = h.f; below = h.below_f; on = h.holds.second_p };
}

empty-boundary : (entry : Dim) (vs ws : List Point) → IsBoundaryEntry entry vs ws →
    (is_empty entry ≡ true) ↔ IsUnmet vs ws
empty-boundary entry vs ws (inl h) = (
  λ e x. true≢false (sym e ∙ ap is_empty h.0),
  λ none. absurd (none (shared-common vs ws h.1)),
)
empty-boundary entry vs ws (inr (inl h)) = (λ e x. true≢false (sym e ∙ ap is_empty h.0), λ none. absurd (none h.1.1))
empty-boundary entry vs ws (inr (inr h)) = (λ e. h.1, λ none. ap is_empty h.0)

swapped : {X : Type 0} {p q : Place → Type 0} → X ↔ (Common p q → ⊥) → X ↔ (Common q p → ⊥)
swapped h = (λ x c. h.0 x (Common-swap c), λ none. h.1 (λ c. none (Common-swap c)))

-- ---- views: four answers, which say what the base relation is and what places there are

pub record IsView (vs ws : List Point) (r : ℕ) : Type 0 where
  pub ii : Bool
  pub ie : Bool
  pub ei : Bool
  pub bb : Bool
  pub is : r ≡ base ii ie ei bb
  pub are_apart : (ii ≡ true) ↔ HasNone true vs ws
  pub is_part : (ie ≡ true) ↔ HasNone false vs ws
  pub is_whole : (ei ≡ true) ↔ HasNone false ws vs
  pub are_unmet : (bb ≡ true) ↔ IsUnmet vs ws

pub view-of : (vs ws : List Point) (r : ℕ) → IsRcc8 vs ws (2 ^ r) → IsView vs ws r
view-of vs ws r h =
    let m = h.matrix in
    record {
      ii = is_empty m.ii;
      ie = is_empty m.ie;
      ei = is_empty m.ei;
      bb = is_empty m.bb;
      is = member-base m r (subst (λ x. Has x r) h.relation (Has-single r));
      are_apart = empty-entry m.ii dim.D2 (Common (IsInRing vs) (IsInRing ws)) refl h.is_matrix.ii;
      is_part = empty-entry m.ie dim.D2 (Common (IsInRing vs) (IsOutOfRing ws)) refl h.is_matrix.ie;
      is_whole = swapped (empty-entry m.ei dim.D2 (Common (IsOutOfRing vs) (IsInRing ws)) refl h.is_matrix.ei);
      are_unmet = empty-boundary m.bb vs ws h.is_matrix.bb;
    }

-- the other way round
pub view-turned : (vs ws : List Point) (r : ℕ) → IsView vs ws r → IsView ws vs (converse_at rcc8_algebra r)
view-turned vs ws r v = record {
  ii = v.ii;
  ie = v.ei;
  ei = v.ie;
  bb = v.bb;
  is = ap (converse_at rcc8_algebra) v.is ∙ (reads v.ii v.ie v.ei v.bb).turned;
  are_apart = swapped v.are_apart;
  is_part = v.is_whole;
  is_whole = v.is_part;
  are_unmet = swapped v.are_unmet;
}

pub view-below : (vs ws : List Point) (r : ℕ) → IsView vs ws r → r < 8
view-below vs ws r v = subst (λ x. x < 8) (sym v.is) (reads v.ii v.ie v.ei v.bb).below

-- an inner part
pub record IsInner (vs ws : List Point) : Type 0 where
  pub part : HasNone false vs ws
  pub not_whole : HasNone false ws vs → ⊥
  pub unmet : IsUnmet vs ws

-- rings without a common place
pub record AreFar (vs ws : List Point) : Type 0 where
  pub none : HasNone true vs ws
  pub unmet : IsUnmet vs ws

module _ (vs ws : List Point) (r : ℕ) (v : IsView vs ws r) where
  -- a set's test, read off the view
  read : (x : ℕ) (t : Bool) → has x (base v.ii v.ie v.ei v.bb) ≡ t → Has x r → t ≡ true
  read x t e h = sym e ∙ ap (has x) (sym v.is) ∙ eq-eqb (bit_at x r) 1 h

  written : (x : ℕ) (t : Bool) → has x (base v.ii v.ie v.ei v.bb) ≡ t → t ≡ true → Has x r
  written x t e h = eqb-true (bit_at x r) 1 (ap (has x) v.is ∙ e ∙ h)

  pub has-apart : Has apart r → HasNone true vs ws
  has-apart h = v.are_apart.0 (read apart v.ii (reads v.ii v.ie v.ei v.bb).apart_is h)

  pub apart-has : HasNone true vs ws → Has apart r
  apart-has none = written apart v.ii (reads v.ii v.ie v.ei v.bb).apart_is (v.are_apart.1 none)

  pub has-far : Has far_apart r → AreFar vs ws
  has-far h =
      let p = and_parts v.ii v.bb (read far_apart (v.ii && v.bb) (reads v.ii v.ie v.ei v.bb).far h) in
      record { none = v.are_apart.0 p.0; unmet = v.are_unmet.0 p.1 }

  pub far-has : AreFar vs ws → Has far_apart r
  far-has f =
      written far_apart (v.ii && v.bb) (reads v.ii v.ie v.ei v.bb).far
      (and_from v.ii v.bb (v.are_apart.1 f.none) (v.are_unmet.1 f.unmet))

  pub has-part : Has parts r → HasNone false vs ws
  has-part h =
      v.is_part.0 (and_parts (not v.ii) v.ie (read parts (not v.ii && v.ie) (reads v.ii v.ie v.ei v.bb).part h)).1

  pub has-inner : Has inner_parts r → IsInner vs ws
  has-inner h =
      let p = and_parts (not v.ii) (v.ie && (not v.ei && v.bb))
      (read inner_parts (not v.ii && (v.ie && (not v.ei && v.bb))) (reads v.ii v.ie v.ei v.bb).inner h) in
      let q = and_parts v.ie (not v.ei && v.bb) p.1 in
      let s = and_parts (not v.ei) v.bb q.1 in
      record {
        part = v.is_part.0 q.0;
        not_whole = λ whole. true≢false (sym (v.is_whole.1 whole) ∙ not-true v.ei s.0);
        unmet = v.are_unmet.0 s.1;
      }

  module _ (first : IsRegion vs) (second : IsRegion ws) where
    not_apart : HasNone false vs ws → not v.ii ≡ true
    not_apart part =
        not_from_false v.ii
        (false_from_ne_true v.ii (λ e. apart-no_part vs ws first.simple first.some second.simple
        (v.are_apart.0 e) part))

    pub part-has : HasNone false vs ws → Has parts r
    part-has part =
        written parts (not v.ii && v.ie) (reads v.ii v.ie v.ei v.bb).part
        (and_from (not v.ii) v.ie (not_apart part) (v.is_part.1 part))

    pub inner-has : IsInner vs ws → Has inner_parts r
    inner-has i =
        written inner_parts (not v.ii && (v.ie && (not v.ei && v.bb))) (reads v.ii v.ie v.ei v.bb).inner
        (and_from (not v.ii) (v.ie && (not v.ei && v.bb)) (not_apart i.part)
        (and_from v.ie (not v.ei && v.bb) (v.is_part.1 i.part)
        (and_from (not v.ei) v.bb (not_from_false v.ei (false_from_ne_true v.ei (λ e. i.not_whole (v.is_whole.0 e))))
        (v.are_unmet.1 i.unmet))))
