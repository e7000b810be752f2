-- A composition read from the table of its first set.
use Rattle.std.proofs.Common.{◌≡◌, ℕ, ◌+◌, ◌*◌, ◌/◌, ◌%◌, ◌^◌, ◌<◌, ◌≤◌, List, refl, sym, ◌∙◌, ap, arith}
use Rattle.std.proofs.Math.Nat.{mod-one}
use Rattle.std.specs.Int.Bits.{or_zero_l}
use Rattle.std.specs.Prelude.{bit_and, bit_or, slice_index}
use Rattle.calculus_table.specs.Rel.{IsWithin}
use Rattle.calculus_table.specs.Algebra.{Algebra}
use Rattle.calculus_table.specs.Composition.{full_of, composition}
use Rattle.calculus_table.specs.Calculus.{IsTable}
use Rattle.calculus_table.proofs.Compositions.{composition-within}
use Rattle.compose_fast.specs.Nibbles.{nibble, byte, set_of_place}
use Rattle.compose_fast.specs.Planes.{IsTableOf}
use Rattle.compose_fast.proofs.Parts.{byte-union, full-lt}
use Rattle.compose_fast.proofs.Rows.{composition-empty_r, composition-more}

module _ (m : Algebra) (a b : ℕ) (table : IsTable m) (few : m.size ≤ 8) (within : IsWithin b (full_of m)) where
  -- one nibble more, where its numbers are worked out
  more-at : (h k l d : ℕ) → k ≡ 2 ^ (4 * h) → l ≡ 2 ^ (4 * (h + 1)) → d ≡ 16 * h + nibble b h →
      bit_or (composition m a (b % k)) (composition m a (bit_and (set_of_place d) (full_of m))) ≡ composition m a (b % l)
  more-at h k l d ek el ed = rw (ek, el, ed) (composition-more m a b h table within)

  -- the first nibble
  first : composition m a (bit_and (set_of_place (b % 16)) (full_of m)) ≡ composition m a (b % 16)
  first =
      let none : composition m a (b % 1) ≡ 0 = ap (composition m a) (mod-one b) ∙ composition-empty_r m a table in
      let here = composition m a (bit_and (set_of_place (b % 16)) (full_of m)) in
      sym (or_zero_l here) ∙ ap (λ y. bit_or y here) (sym none) ∙ more-at 0 1 16 (b % 16) refl refl (omega arith)

  -- the entries for both nibbles of b in the table of a, from a place on
  pub composition-by_table : (sets : List ℕ) (at low high : ℕ) → IsTableOf m a sets at → low ≡ slice_index sets (at + b % 16) → high ≡ slice_index sets (at + (16 + b / 16)) → bit_or low high ≡ composition m a b
  composition-by_table sets at low high t one two =
      let small : b < 256 = full-lt m b 8 within few in
      let most : composition m a b < 256 = full-lt m (composition m a b) 8 (composition-within m a b table) few in
      let x = composition m a (bit_and (set_of_place (b % 16)) (full_of m)) in
      let y = composition m a (bit_and (set_of_place (16 + b / 16)) (full_of m)) in
      let whole : bit_or x y ≡ composition m a b =
      ap (λ z. bit_or z y) first ∙ more-at 1 16 256 (16 + b / 16) refl refl (omega arith) ∙ ap (composition m a) (omega arith) in
      let left : low ≡ byte x 0 = one ∙ t (b % 16) (omega arith) in
      let right : high ≡ byte y 0 = two ∙ t (16 + b / 16) (omega arith) in
      let same : byte (composition m a b) 0 ≡ composition m a b = omega arith in
      ap (λ z. bit_or z high) left ∙ ap (bit_or (byte x 0)) right ∙ sym (byte-union x y 0) ∙ ap (λ z. byte z 0) whole ∙ same
