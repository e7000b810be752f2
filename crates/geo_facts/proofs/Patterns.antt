-- The pattern that a matrix meets is that of its relation.
use Rattle.std.proofs.Common.{◌≡◌, ◌≢◌, ℕ, zero, suc, ◌^◌, ◌<◌, Bool, true, false, cond, [], ◌∷◌, refl, sym, ap, subst, ◌∙◌, arith}
use Rattle.calculus_table.specs.Rel.{Has, IsWithin}
use Rattle.calculus_table.specs.Composition.{full_of}
use Rattle.calculus_table.proofs.Sets.{Has-single}
use Rattle.calculus_table.proofs.Members.{single-member}
use Rattle.calculus_table.proofs.Compositions.{Has-full}
use Rattle.calculus_table.proofs.Singles.{single-within}
use Rattle.calculus_builtin.specs.Rcc8.{rcc8_algebra, dc, ec, po, tpp, ntpp, tppi, ntppi, eq}
use Rattle.de9im.specs.declared.matrices.Dim.{Dim}
use Rattle.de9im.specs.declared.matrices.Dim.TheVariants.{F, D0, D1, D2}
use Rattle.de9im.specs.declared.matrices.Matrix.{Matrix}
use Rattle.de9im.specs.declared.patterns.Want.{Want}
use Rattle.de9im.specs.declared.patterns.Want.TheVariants.{Anything, NonEmpty, Exactly}
use Rattle.de9im.specs.Entries.{entries}
use Rattle.de9im.specs.Patterns.{Matches, MatchesText, Admits, want_at, dim_at}
use Rattle.geo_facts.specs.Relating.{is_empty, rcc8_of, pattern_of, OnePatternFits}

-- ---- numbers below 8 and 9

eight : (P : ℕ → Type 0) → P 0 → P 1 → P 2 → P 3 → P 4 → P 5 → P 6 → P 7 → (r : ℕ) → r < 8 → P r
eight P a b c d e f g h zero l = a
eight P a b c d e f g h (suc zero) l = b
eight P a b c d e f g h (suc (suc zero)) l = c
eight P a b c d e f g h (suc (suc (suc zero))) l = d
eight P a b c d e f g h (suc (suc (suc (suc zero)))) l = e
eight P a b c d e f g h (suc (suc (suc (suc (suc zero))))) l = f
eight P a b c d e f g h (suc (suc (suc (suc (suc (suc zero)))))) l = g
eight P a b c d e f g h (suc (suc (suc (suc (suc (suc (suc zero))))))) l = h
eight P a b c d e f g h (suc (suc (suc (suc (suc (suc (suc (suc r)))))))) l = absurd (omega arith)

nine : (P : ℕ → Type 0) → P 0 → P 1 → P 2 → P 3 → P 4 → P 5 → P 6 → P 7 → P 8 → (r : ℕ) → r < 9 → P r
nine P a b c d e f g h i zero l = a
nine P a b c d e f g h i (suc r) l = eight (λ k. P (suc k)) b c d e f g h i r (omega arith)

-- ---- empty intersections

empty : (d : Dim) → is_empty d ≡ true → d ≡ F
empty F h = refl
empty D0 h = cc
empty D1 h = cc
empty D2 h = cc

full : (d : Dim) → is_empty d ≡ false → d ≢ F
full F h e = cc
full D0 h e = cc
full D1 h e = cc
full D2 h e = cc

from_full : (d : Dim) → d ≢ F → is_empty d ≡ false
from_full F h = absurd (h refl)
from_full D0 h = refl
from_full D1 h = refl
from_full D2 h = refl

-- ---- the relation by what is empty

rel : Bool → Bool → Bool → Bool → ℕ
rel a b c d = cond a (cond d dc ec) (cond b (cond c eq (cond d ntpp tpp)) (cond c (cond d ntppi tppi) po))

module _ (m : Matrix) where
  -- the entries that patterns of relations ask for
  meets_pattern : (ii ie bb ei : Want) → Admits ii m.ii → Admits ie m.ie → Admits bb m.bb → Admits ei m.ei →
      Matches (ii ∷ Anything ∷ ie ∷ Anything ∷ bb ∷ Anything ∷ ei ∷ Anything ∷ Anything ∷ []) (entries m)
  meets_pattern ii ie bb ei a b d c =
      record { each = nine (λ k. Admits (want_at (ii ∷ Anything ∷ ie ∷ Anything ∷ bb ∷ Anything ∷ ei ∷ Anything ∷ Anything ∷ []) k) (dim_at (entries m) k)) a tt b tt d tt c tt tt }

  record HasRelation : Type 0 where
    r : ℕ
    below : r < 8
    fits : MatchesText (pattern_of r) m
    is : rcc8_of m ≡ 2 ^ r

  related : (a b c d : Bool) → is_empty m.ii ≡ a → is_empty m.ie ≡ b → is_empty m.ei ≡ c → is_empty m.bb ≡ d → rcc8_of m ≡ rel a b c d → HasRelation
  unfolding rel
  related true b c true ii ie ei bb e =
      record { r = 0; below = omega arith; fits = meets_pattern (Exactly F) Anything (Exactly F) Anything (empty m.ii ii) tt (empty m.bb bb) tt; is = e }
  related true b c false ii ie ei bb e =
      record { r = 1; below = omega arith; fits = meets_pattern (Exactly F) Anything NonEmpty Anything (empty m.ii ii) tt (full m.bb bb) tt; is = e }
  related false false false d ii ie ei bb e =
      record { r = 2; below = omega arith; fits = meets_pattern NonEmpty NonEmpty Anything NonEmpty (full m.ii ii) (full m.ie ie) tt (full m.ei ei); is = e }
  related false true false false ii ie ei bb e =
      record { r = 3; below = omega arith; fits = meets_pattern NonEmpty (Exactly F) NonEmpty NonEmpty (full m.ii ii) (empty m.ie ie) (full m.bb bb) (full m.ei ei); is = e }
  related false true false true ii ie ei bb e =
      record { r = 4; below = omega arith; fits = meets_pattern NonEmpty (Exactly F) (Exactly F) NonEmpty (full m.ii ii) (empty m.ie ie) (empty m.bb bb) (full m.ei ei); is = e }
  related false false true false ii ie ei bb e =
      record { r = 5; below = omega arith; fits = meets_pattern NonEmpty NonEmpty NonEmpty (Exactly F) (full m.ii ii) (full m.ie ie) (full m.bb bb) (empty m.ei ei); is = e }
  related false false true true ii ie ei bb e =
      record { r = 6; below = omega arith; fits = meets_pattern NonEmpty NonEmpty (Exactly F) (Exactly F) (full m.ii ii) (full m.ie ie) (empty m.bb bb) (empty m.ei ei); is = e }
  related false true true d ii ie ei bb e =
      record { r = 7; below = omega arith; fits = meets_pattern NonEmpty (Exactly F) Anything (Exactly F) (full m.ii ii) (empty m.ie ie) tt (empty m.ei ei); is = e }

  has_relation : HasRelation
  unfolding rel
  has_relation = related (is_empty m.ii) (is_empty m.ie) (is_empty m.ei) (is_empty m.bb) refl refl refl refl refl

  is_rel : rcc8_of m ≡ rel (is_empty m.ii) (is_empty m.ie) (is_empty m.ei) (is_empty m.bb)
  unfolding rel
  is_rel = refl

  rel-at : (a b c d : Bool) → is_empty m.ii ≡ a → is_empty m.ie ≡ b → is_empty m.ei ≡ c → is_empty m.bb ≡ d → rcc8_of m ≡ rel a b c d
  rel-at a b c d ii ie ei bb =
      is_rel ∙ ap (λ x. rel x (is_empty m.ie) (is_empty m.ei) (is_empty m.bb)) ii ∙ ap (λ x. rel a x (is_empty m.ei) (is_empty m.bb)) ie ∙ ap (λ x. rel a b x (is_empty m.bb)) ei
      ∙ ap (λ x. rel a b c x) bb

  no : (d : Dim) → d ≡ F → is_empty d ≡ true
  no d e = ap is_empty e

  fits-relation : (r : ℕ) → r < 8 → MatchesText (pattern_of r) m → rcc8_of m ≡ 2 ^ r
  unfolding rel
  fits-relation = eight (λ r. MatchesText (pattern_of r) m → rcc8_of m ≡ 2 ^ r)
      (λ h. rel-at true _ _ true (no m.ii (h.each 0 (omega arith))) refl refl (no m.bb (h.each 4 (omega arith))))
      (λ h. rel-at true _ _ false (no m.ii (h.each 0 (omega arith))) refl refl (from_full m.bb (h.each 4 (omega arith))))
      (λ h. rel-at false false false _ (from_full m.ii (h.each 0 (omega arith))) (from_full m.ie (h.each 2 (omega arith))) (from_full m.ei (h.each 6 (omega arith))) refl)
      (λ h. rel-at false true false false (from_full m.ii (h.each 0 (omega arith))) (no m.ie (h.each 2 (omega arith))) (from_full m.ei (h.each 6 (omega arith))) (from_full m.bb (h.each 4 (omega arith))))
      (λ h. rel-at false true false true (from_full m.ii (h.each 0 (omega arith))) (no m.ie (h.each 2 (omega arith))) (from_full m.ei (h.each 6 (omega arith))) (no m.bb (h.each 4 (omega arith))))
      (λ h. rel-at false false true false (from_full m.ii (h.each 0 (omega arith))) (from_full m.ie (h.each 2 (omega arith))) (no m.ei (h.each 6 (omega arith))) (from_full m.bb (h.each 4 (omega arith))))
      (λ h. rel-at false false true true (from_full m.ii (h.each 0 (omega arith))) (from_full m.ie (h.each 2 (omega arith))) (no m.ei (h.each 6 (omega arith))) (no m.bb (h.each 4 (omega arith))))
      (λ h. rel-at false true true _ (from_full m.ii (h.each 0 (omega arith))) (no m.ie (h.each 2 (omega arith))) (no m.ei (h.each 6 (omega arith))) refl)

pub one_pattern-fits : OnePatternFits
one_pattern-fits m r below = (
  fits-relation m r below,
  λ e.
      let h = has_relation m in
      let same : r ≡ h.r = single-member h.r r (subst (λ x. Has x r) (sym e ∙ h.is) (Has-single r)) in
      subst (λ k. MatchesText (pattern_of k) m) (sym same) h.fits,
)

-- the set of a matrix is one of RCC-8
pub rcc8-within : (m : Matrix) → IsWithin (rcc8_of m) (full_of rcc8_algebra)
rcc8-within m =
    let h = has_relation m in
    subst (λ x. IsWithin x (full_of rcc8_algebra)) (sym h.is) (single-within h.r (full_of rcc8_algebra) (Has-full rcc8_algebra h.r h.below))
