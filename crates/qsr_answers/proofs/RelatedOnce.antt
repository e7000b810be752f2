-- Polygons and a pattern have one text at most.
use Rattle.std.proofs.Common.{◌≡◌, ℕ, List, [], ◌∷◌, ◌++◌, codes, Option, inl, inr, sym, ◌∙◌, ap, subst, arith}
use Rattle.std.specs.Prelude.{◌^◌, slice_get}
use Rattle.std.proofs.lemmas.Bool.{cases_lt}
use Rattle.std.proofs.lemmas.Nat.{pow_below}
use Rattle.calculus_builtin.specs.Rcc8.{rcc8_names}
use Rattle.de9im.specs.Entries.{matrix_text}
use Rattle.de9im.specs.declared.matrices.Matrix.{Matrix}
use Rattle.de9im.specs.declared.patterns.Want.{Want}
use Rattle.de9im.proofs.OneMatrix.{matrix-one}
use Rattle.geo_facts.specs.Facts.{RingPair, ring_pairs}
use Rattle.qsr_inputs.specs.Inputs.{Related}
use Rattle.qsr_inputs.proofs.InputsOnce.{some_alike}
use Rattle.qsr_answers.specs.Relations.{IsRelationName, IsLineOf, IsPartOf, IsTextOfPairs, IsTextOfPolygons}

power_once : (a b : ℕ) → 2 ^ a ≡ 2 ^ b → a ≡ b
power_once a b e = elim (cases_lt a b) [
  | inl less ↦ absurd (omega (arith, pow_below a b less, e))
  | inr least ↦ elim (cases_lt b a) [ inl less ↦ absurd (omega (arith, pow_below b a less, e)) | inr most ↦ omega arith ]
]

relation_once : (m : Matrix) (a b : List ℕ) → IsRelationName m a → IsRelationName m b → a ≡ b
relation_once m a b h k =
    let base : h.base ≡ k.base = power_once h.base k.base (sym h.is_base ∙ k.is_base) in
    some_alike (slice_get rcc8_names k.base) a b (sym (ap (slice_get rcc8_names) base) ∙ h.named) k.named

line_once : (pair : RingPair) (m : Matrix) (a b : List ℕ) → IsLineOf pair m a → IsLineOf pair m b → a ≡ b
line_once pair m a b h k =
    h.line_is
    ∙ ap (λ r. pair.first.name ++ codes " " ++ pair.second.name ++ codes " " ++ matrix_text m ++ codes " " ++ r ++ codes "\n") (relation_once m h.relation k.relation h.is_relation k.is_relation)
    ∙ sym k.line_is

part_once : (pattern : Option (List Want)) (pair : RingPair) (m : Matrix) (a b : List ℕ) → IsPartOf pattern pair m a → IsPartOf pattern pair m b → a ≡ b
part_once pattern pair m a b h k = elim h [
  | inl x ↦ elim k [ inl y ↦ line_once pair m a b x.1 y.1 | inr y ↦ absurd (y.0 x.0) ]
  | inr x ↦ elim k [ inl y ↦ absurd (x.0 y.0) | inr y ↦ x.1 ∙ sym y.1 ]
]

pairs_once : (pattern : Option (List Want)) (pairs : List RingPair) (t u : List ℕ) → IsTextOfPairs pattern pairs t → IsTextOfPairs pattern pairs u → t ≡ u
pairs_once pattern [] t u h k = h ∙ sym k
pairs_once pattern (pair ∷ pairs) t u h k =
    let same : h.matrix ≡ k.matrix = matrix-one pair.first.vertices pair.second.vertices h.matrix k.matrix h.is_matrix k.is_matrix in
    let part : h.part ≡ k.part = part_once pattern pair k.matrix h.part k.part (subst (λ m. IsPartOf pattern pair m h.part) same h.is_part) k.is_part in
    h.text_is ∙ ap (λ x. x ++ h.rest) part ∙ ap (λ x. k.part ++ x) (pairs_once pattern pairs h.rest k.rest h.is_rest k.is_rest) ∙ sym k.text_is

pub relates_once : (related : Related) (t u : List ℕ) → IsTextOfPolygons related t → IsTextOfPolygons related u → t ≡ u
relates_once related t u h k = pairs_once related.pattern (ring_pairs related.polygons) t u h k
