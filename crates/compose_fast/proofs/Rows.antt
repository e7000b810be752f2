-- What one base relation gives composed with a set.
use Rattle.std.proofs.Common.{◌≡◌, ℕ, ◌+◌, ◌*◌, ◌%◌, ◌^◌, ◌<◌, sym, ◌∙◌, ap, subst}
use Rattle.std.specs.Prelude.{bit_and, bit_or}
use Rattle.calculus_table.specs.Rel.{Has, IsWithin}
use Rattle.calculus_table.specs.Algebra.{Algebra}
use Rattle.calculus_table.specs.Composition.{full_of, if_has, row_composition, composition, converse}
use Rattle.calculus_table.specs.Calculus.{IsTable}
use Rattle.calculus_table.proofs.Sets.{Has-single, IsWithin-antisym, IsWithin-trans, meet-within, not_Has-empty, empty-within}
use Rattle.calculus_table.proofs.Compositions.{InUnion, union_below-member, if_has-member, single-member, composition-union_r, composition-member, converse-member, converse-union}
use Rattle.calculus_table.proofs.Unions.{union_over-has}
use Rattle.compose_fast.specs.Nibbles.{nibble, set_of_place, composition_at, converse_of_place}
use Rattle.compose_fast.proofs.Parts.{nibbles-more, nibble-within}

-- the composition of a single set is that of its member
pub composition-single_l : (m : Algebra) (r b : ℕ) → IsTable m → r < m.size → composition m (2 ^ r) b ≡ row_composition m r b
composition-single_l m r b k l = IsWithin-antisym _ _
    (record {
      each = λ t h. let u : InUnion m.size (λ q. if_has (2 ^ r) q (row_composition m q b)) t = union_below-member m.size (λ q. if_has (2 ^ r) q (row_composition m q b)) t h in
          let p = if_has-member (2 ^ r) u.at (row_composition m u.at b) t u.member in
          subst (λ q. Has (row_composition m q b) t) (single-member r u.at p.0) p.1;
    })
    (union_over-has m.size (λ q. row_composition m q b) (2 ^ r) r l (Has-single r))

-- it distributes over a union
pub row_composition-union : (m : Algebra) (r a b : ℕ) → IsTable m → r < m.size → row_composition m r (bit_or a b) ≡ bit_or (row_composition m r a) (row_composition m r b)
row_composition-union m r a b k l =
    sym (composition-single_l m r (bit_or a b) k l) ∙ composition-union_r m (2 ^ r) a b k
    ∙ ap (λ x. bit_or x (composition m (2 ^ r) b)) (composition-single_l m r a k l)
    ∙ ap (bit_or (row_composition m r a)) (composition-single_l m r b k l)

-- and is empty where the set is
pub row_composition-empty : (m : Algebra) (r : ℕ) → IsTable m → r < m.size → row_composition m r 0 ≡ 0
row_composition-empty m r k l =
    sym (composition-single_l m r 0 k l) ∙ empty-within _ (record { each = λ t h. absurd (not_Has-empty _ (composition-member m (2 ^ r) 0 t k h).second_in) })

pub converse-of_empty : (m : Algebra) → converse m 0 ≡ 0
converse-of_empty m = empty-within _ (record { each = λ t h. absurd (not_Has-empty _ (converse-member m 0 t h).base_in) })

-- ---- nibble by nibble

place-kept : (m : Algebra) (x h : ℕ) → IsWithin x (full_of m) → bit_and (set_of_place (16 * h + nibble x h)) (full_of m) ≡ set_of_place (16 * h + nibble x h)
place-kept m x h w = meet-within _ _ (IsWithin-trans _ _ _ (nibble-within x h) w)

-- one nibble more of the second set
pub row_composition-more : (m : Algebra) (r x h : ℕ) → IsTable m → r < m.size → IsWithin x (full_of m) →
    bit_or (row_composition m r (x % 2 ^ (4 * h))) (composition_at m r (16 * h + nibble x h)) ≡ row_composition m r (x % 2 ^ (4 * (h + 1)))
row_composition-more m r x h k l w =
    ap (λ y. bit_or (row_composition m r (x % 2 ^ (4 * h))) (row_composition m r y)) (place-kept m x h w)
    ∙ sym (row_composition-union m r _ _ k l) ∙ ap (row_composition m r) (sym (nibbles-more x h))

-- and of a set whose converse is taken
pub converse-more : (m : Algebra) (x h : ℕ) → IsWithin x (full_of m) →
    bit_or (converse m (x % 2 ^ (4 * h))) (converse_of_place m (16 * h + nibble x h)) ≡ converse m (x % 2 ^ (4 * (h + 1)))
converse-more m x h w =
    ap (λ y. bit_or (converse m (x % 2 ^ (4 * h))) (converse m y)) (place-kept m x h w)
    ∙ sym (converse-union m _ _) ∙ ap (converse m) (sym (nibbles-more x h))

-- and of a set that another is composed with
pub composition-more : (m : Algebra) (a x h : ℕ) → IsTable m → IsWithin x (full_of m) →
    bit_or (composition m a (x % 2 ^ (4 * h))) (composition m a (bit_and (set_of_place (16 * h + nibble x h)) (full_of m))) ≡ composition m a (x % 2 ^ (4 * (h + 1)))
composition-more m a x h k w =
    ap (λ y. bit_or (composition m a (x % 2 ^ (4 * h))) (composition m a y)) (place-kept m x h w)
    ∙ sym (composition-union_r m a _ _ k) ∙ ap (composition m a) (sym (nibbles-more x h))

-- the composition with the empty set is empty
pub composition-empty_l : (m : Algebra) (b : ℕ) → IsTable m → composition m 0 b ≡ 0
composition-empty_l m b k = empty-within _ (record { each = λ t h. absurd (not_Has-empty _ (composition-member m 0 b t k h).first_in) })

pub composition-empty_r : (m : Algebra) (a : ℕ) → IsTable m → composition m a 0 ≡ 0
composition-empty_r m a k = empty-within _ (record { each = λ t h. absurd (not_Has-empty _ (composition-member m a 0 t k h).second_in) })
