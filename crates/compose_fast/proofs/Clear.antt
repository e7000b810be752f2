-- A set that is within what the tables give, byte by byte, is within the composition.
use Rattle.std.proofs.Common.{◌≡◌, ℕ, ◌+◌, ◌*◌, ◌-◌, ◌/◌, ◌%◌, ◌^◌, ◌<◌, ◌≤◌, List, refl, sym, ◌∙◌, ap, subst, arith, pow-add, inl, inr}
use Rattle.std.specs.Prelude.{bit_and, slice_index}
use Rattle.std.specs.Int.{bit_at}
use Rattle.std.proofs.Math.Nat.{div-div-eq-div-mul}
use Rattle.calculus_table.specs.Rel.{Has, IsWithin}
use Rattle.calculus_table.specs.Algebra.{Algebra}
use Rattle.calculus_table.specs.Composition.{full_of, composition}
use Rattle.calculus_table.specs.Calculus.{IsTable}
use Rattle.calculus_table.proofs.Sets.{IsWithin-refl, IsWithin-trans, IsWithin-meet_l, Has-meet_r, Has-union}
use Rattle.calculus_table.proofs.Compositions.{full-member, InUnion, union_below-member, composition-mono}
use Rattle.compose_fast.specs.Nibbles.{nibble, byte, set_of_place}
use Rattle.compose_fast.specs.Planes.{AreTablesOf, IsWithinAlong, looked_up, along_at}
use Rattle.compose_fast.proofs.Parts.{bit_at-byte, byte-lt, nibble-within}

-- the nibbles of a byte
byte-low : (y q : ℕ) → byte y q % 16 ≡ nibble y (2 * q)
byte-low y q =
    let e : 4 * (2 * q) ≡ 8 * q = omega arith in
    let z = y / 2 ^ (8 * q) in
    let m : byte y q % 16 ≡ y / 2 ^ (8 * q) % 16 = omega arith in
    m ∙ ap (λ k. y / 2 ^ k % 16) (sym e)

byte-high : (y q : ℕ) → byte y q / 16 ≡ nibble y (2 * q + 1)
byte-high y q =
    let e : 8 * q + 4 ≡ 4 * (2 * q + 1) = omega arith in
    let m : byte y q / 16 ≡ y / 2 ^ (8 * q) / 16 % 16 = omega arith in
    m ∙ ap (λ z. z % 16) (div-div-eq-div-mul y (2 ^ (8 * q)) 16 ∙ ap (λ z. y / z) (sym (pow-add 2 (8 * q) 4))) ∙ ap (λ k. y / 2 ^ k % 16) e

module _ (m : Algebra) (planes a x y here there : ℕ) (set bytes : List ℕ) (table : IsTable m) (tables : AreTablesOf m planes a set)
    (there-is : (q : ℕ) → q < planes → slice_index bytes (256 * q + there) ≡ byte y q) where
  -- what one place gives is in the composition
  looked : (p d h t : ℕ) → p < planes → d ≡ 16 * h + nibble y h → d < 32 * planes → t % 8 ≡ t - 8 * p → p ≡ t / 8 → Has (slice_index set (256 * p + d)) (t % 8) → Has (composition m a y) t
  looked p d h t pb de db te pe has =
      let at : 8 * p + t % 8 ≡ t = omega arith in
      let in-byte : Has (byte (composition m a (bit_and (set_of_place d) (full_of m))) p) (t % 8) = subst (λ z. Has z (t % 8)) (tables.each p d pb db) has in
      let in-part : Has (composition m a (bit_and (set_of_place d) (full_of m))) (8 * p + t % 8) = sym (bit_at-byte (composition m a (bit_and (set_of_place d) (full_of m))) p (t % 8) (omega arith)) ∙ in-byte in
      let within : IsWithin (bit_and (set_of_place d) (full_of m)) y = IsWithin-trans _ _ _ (IsWithin-meet_l (set_of_place d) (full_of m)) (subst (λ e. IsWithin (set_of_place e) y) (sym de) (nibble-within y h)) in
      (composition-mono m a (bit_and (set_of_place d) (full_of m)) a y table (IsWithin-refl a) within).each t (subst (Has (composition m a (bit_and (set_of_place d) (full_of m)))) at in-part)

  pub within_along : m.size ≤ 8 * planes → IsWithin x (full_of m) → ((p : ℕ) → p < planes → slice_index bytes (256 * p + here) ≡ byte x p) → IsWithinAlong set bytes planes here there → IsWithin x (composition m a y)
  within_along few xw here-is along = record {
    each = λ t h.
        let p = t / 8 in
        let small = full-member m t (xw.each t h) in
        let pb : t / 8 < planes = omega arith in
        let at : 8 * (t / 8) + t % 8 ≡ t = omega arith in
        let te : t % 8 ≡ t - 8 * (t / 8) = omega arith in
        let in-byte : Has (slice_index bytes (256 * p + here)) (t % 8) =
        subst (λ z. Has z (t % 8)) (sym (here-is p pb)) (bit_at-byte x p (t % 8) (omega arith) ∙ subst (λ s. bit_at x s ≡ 1) (sym at) h) in
        let in-along : Has (along_at set bytes planes p there) (t % 8) = Has-meet_r _ _ (t % 8) (subst (λ z. Has z (t % 8)) (sym (along p pb)) in-byte) in
        let u : InUnion planes (λ q. looked_up set p q (slice_index bytes (256 * q + there))) (t % 8) = union_below-member planes (λ q. looked_up set p q (slice_index bytes (256 * q + there))) (t % 8) in-along in
        let q = u.at in
        let byte-is = there-is q u.below in
        let two = subst (λ z. Has (looked_up set p q z) (t % 8)) byte-is u.member in
        let small-byte = byte-lt y q in
        elim (Has-union _ _ (t % 8) two) [
          | inl low ↦
              (let d : 256 * p + 32 * q + byte y q % 16 ≡ 256 * p + (32 * q + byte y q % 16) = omega arith in
              let de : 32 * q + byte y q % 16 ≡ 16 * (2 * q) + nibble y (2 * q) = omega (arith, byte-low y q) in
              looked p (32 * q + byte y q % 16) (2 * q) t pb de (omega (arith, u.below)) te refl (subst (λ z. Has (slice_index set z) (t % 8)) d low))
          | inr high ↦
              (let d : 256 * p + 32 * q + 16 + byte y q / 16 ≡ 256 * p + (32 * q + 16 + byte y q / 16) = omega arith in
              let de : 32 * q + 16 + byte y q / 16 ≡ 16 * (2 * q + 1) + nibble y (2 * q + 1) = omega (arith, byte-high y q) in
              looked p (32 * q + 16 + byte y q / 16) (2 * q + 1) t pb de (omega (arith, u.below)) te refl (subst (λ z. Has (slice_index set z) (t % 8)) d high))
        ];
  }
