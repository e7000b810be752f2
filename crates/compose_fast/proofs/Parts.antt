-- Bits of nibbles and bytes.
use Rattle.std.proofs.Common.{◌≡◌, ℕ, ◌+◌, ◌*◌, ◌-◌, ◌/◌, ◌%◌, ◌^◌, ◌<◌, ◌≤◌, sym, ◌∙◌, ap, subst, arith, inl, inr}
use Rattle.std.specs.Prelude.{bit_or}
use Rattle.std.specs.Int.{bit_at}
use Rattle.std.proofs.lemmas.Bool.{cases_lt}
use Rattle.std.specs.Int.Bits.{or_shifted_r}
use Rattle.std.proofs.lemmas.Nat.{pow_pos, mod-pow-add, div-add-mod'}
use Rattle.std.proofs.Math.Nat.{pow-le-pow_right, mod-lt, mod-eq_of_lt, mul-le-mul_right}
use Rattle.std.proofs.lemmas.Nat.Bits.{bit_at_cat_low, bit_at_cat_high, bit_at_above, bit_at-zero, bit_at_or, same_from_bits}
use Rattle.calculus_table.specs.Rel.{IsWithin}
use Rattle.calculus_table.specs.Algebra.{Algebra}
use Rattle.calculus_table.specs.Composition.{full_of}
use Rattle.calculus_table.proofs.Sets.{IsWithin-trans, IsWithin-le, IsWithin-union_r}
use Rattle.compose_fast.specs.Nibbles.{nibble, byte, set_of_place}

-- ---- parts of a number

pub bit_at-shifted : (x k s : ℕ) → bit_at (x / 2 ^ k) s ≡ bit_at x (k + s)
bit_at-shifted x k s =
    let e : bit_at (x / 2 ^ k * 2 ^ k + x % 2 ^ k) (k + s) ≡ bit_at (x / 2 ^ k) (k + s - k) = bit_at_cat_high (x / 2 ^ k) k (x % 2 ^ k) (k + s) (mod-lt x (pow_pos k)) (omega arith) in
    ap (bit_at (x / 2 ^ k)) (omega arith) ∙ sym e ∙ ap (λ y. bit_at y (k + s)) (div-add-mod' x (2 ^ k))

pub bit_at-masked : (x k s : ℕ) → s < k → bit_at (x % 2 ^ k) s ≡ bit_at x s
bit_at-masked x k s l = sym (bit_at_cat_low (x / 2 ^ k) k (x % 2 ^ k) s l) ∙ ap (λ y. bit_at y s) (div-add-mod' x (2 ^ k))

masked-within : (x k : ℕ) → IsWithin (x % 2 ^ k) x
masked-within x k = record {
  each = λ t h. elim (cases_lt t k) [
    | inl l ↦ sym (bit_at-masked x k t l) ∙ h
    | inr g ↦ (let e = bit_at_above (x % 2 ^ k) k t (mod-lt x (pow_pos k)) g in absurd (omega arith))
  ];
}

-- ---- bytes

pub byte-lt : (x p : ℕ) → byte x p < 256
byte-lt x p = mod-lt (x / 2 ^ (8 * p)) (omega arith)

pub bit_at-byte : (x p s : ℕ) → s < 8 → bit_at (byte x p) s ≡ bit_at x (8 * p + s)
bit_at-byte x p s l = bit_at-masked (x / 2 ^ (8 * p)) 8 s l ∙ bit_at-shifted x (8 * p) s

bit_at-byte_above : (x p s : ℕ) → 8 ≤ s → bit_at (byte x p) s ≡ 0
bit_at-byte_above x p s g = bit_at_above (byte x p) 8 s (byte-lt x p) g

pub byte-union : (x y p : ℕ) → byte (bit_or x y) p ≡ bit_or (byte x p) (byte y p)
byte-union x y p = same_from_bits _ _ (λ s. elim (cases_lt s 8) [
  | inl l ↦ bit_at-byte (bit_or x y) p s l ∙ bit_at_or x y (8 * p + s) ∙ (let a = bit_at-byte x p s l in let b = bit_at-byte y p s l in omega (arith, bit_at_or (byte x p) (byte y p) s))
  | inr g ↦ bit_at-byte_above (bit_or x y) p s g ∙ (let a = bit_at-byte_above x p s g in let b = bit_at-byte_above y p s g in omega (arith, bit_at_or (byte x p) (byte y p) s))
])

pub byte-empty : (p : ℕ) → byte 0 p ≡ 0
byte-empty p = same_from_bits _ _ (λ s. elim (cases_lt s 8) [
  | inl l ↦ bit_at-byte 0 p s l ∙ bit_at-zero (8 * p + s) ∙ sym (bit_at-zero s)
  | inr g ↦ bit_at-byte_above 0 p s g ∙ sym (bit_at-zero s)
])

-- ---- nibbles

pub nibble-lt : (x h : ℕ) → nibble x h < 16
nibble-lt x h = mod-lt (x / 2 ^ (4 * h)) (omega arith)

set_of_nibble : (h v : ℕ) → v < 16 → set_of_place (16 * h + v) ≡ v * 2 ^ (4 * h)
set_of_nibble h v l =
    let q : (16 * h + v) % 16 ≡ v = omega arith in
    let d : (16 * h + v) / 16 ≡ h = omega arith in
    ap (λ a. a * 2 ^ (4 * ((16 * h + v) / 16))) q ∙ ap (λ b. v * 2 ^ (4 * b)) d

-- one nibble more of a set
pub nibbles-more : (x h : ℕ) → x % 2 ^ (4 * (h + 1)) ≡ bit_or (x % 2 ^ (4 * h)) (set_of_place (16 * h + nibble x h))
nibbles-more x h =
    let e : 4 * (h + 1) ≡ 4 + 4 * h = omega arith in
    ap (λ k. x % 2 ^ k) e ∙ mod-pow-add x 4 (4 * h)
    ∙ sym (or_shifted_r (nibble x h) (4 * h) (x % 2 ^ (4 * h)) (mod-lt x (pow_pos (4 * h))))
    ∙ ap (bit_or (x % 2 ^ (4 * h))) (sym (set_of_nibble h (nibble x h) (nibble-lt x h)))

-- a nibble of a set is within it
pub nibble-within : (x h : ℕ) → IsWithin (set_of_place (16 * h + nibble x h)) x
nibble-within x h =
    IsWithin-trans _ _ _ (subst (IsWithin (set_of_place (16 * h + nibble x h))) (sym (nibbles-more x h)) (IsWithin-union_r (x % 2 ^ (4 * h)) _)) (masked-within x (4 * (h + 1)))

-- so many nibbles are the whole set
pub nibbles-whole : (m : Algebra) (x n : ℕ) → IsWithin x (full_of m) → m.size ≤ 4 * n → x % 2 ^ (4 * n) ≡ x
nibbles-whole m x n w l =
    let most : 2 ^ m.size ≤ 2 ^ (4 * n) = pow-le-pow_right {n = 2} (omega arith) l in
    let le = IsWithin-le x (full_of m) w in
    mod-eq_of_lt (omega (arith, pow_pos m.size))

pub full-lt : (m : Algebra) (x k : ℕ) → IsWithin x (full_of m) → m.size ≤ k → x < 2 ^ k
full-lt m x k w l =
    let most : 2 ^ m.size ≤ 2 ^ k = pow-le-pow_right {n = 2} (omega arith) l in
    let le = IsWithin-le x (full_of m) w in
    omega (arith, pow_pos m.size)

-- the word that a place's set is written as
pub place-word : (d : ℕ) → d < 256 → d % 16 * 2 ^ (4 * (d / 16)) % 2 ^ 64 ≡ set_of_place d
place-word d l = mod-eq_of_lt (below (d % 16) (d / 16) (omega arith) (omega arith))
  where
    below : (v h : ℕ) → v < 16 → h < 16 → v * 2 ^ (4 * h) < 2 ^ 64
    below v h a b =
        let exponent : 4 * h ≤ 60 = omega arith in
        let most : 2 ^ (4 * h) ≤ 2 ^ 60 = pow-le-pow_right {n = 2} (omega arith) exponent in
        let times : v * 2 ^ (4 * h) ≤ 15 * 2 ^ (4 * h) = mul-le-mul_right (2 ^ (4 * h)) (omega arith) in
        omega arith

-- ---- a set from its bytes

-- one byte more of a set
pub bytes-more : (x p : ℕ) → bit_or (x % 2 ^ (8 * p)) (byte x p * 2 ^ (8 * p)) ≡ x % 2 ^ (8 * (p + 1))
bytes-more x p =
    let e : 8 + 8 * p ≡ 8 * (p + 1) = omega arith in
    or_shifted_r (byte x p) (8 * p) (x % 2 ^ (8 * p)) (mod-lt x (pow_pos (8 * p)))
    ∙ sym (mod-pow-add x 8 (8 * p)) ∙ ap (λ k. x % 2 ^ k) e

-- all bytes of a set
pub bytes-whole : (m : Algebra) (x n : ℕ) → IsWithin x (full_of m) → m.size ≤ 8 * n → x % 2 ^ (8 * n) ≡ x
bytes-whole m x n w few = mod-eq_of_lt (full-lt m x (8 * n) w few)

-- the word that a byte of a set is written as
pub byte-word : (x p : ℕ) → p < 8 → byte x p * 2 ^ (8 * p) % 2 ^ 64 ≡ byte x p * 2 ^ (8 * p)
byte-word x p l =
    let exponent : 8 * p ≤ 56 = omega arith in
    let most : 2 ^ (8 * p) ≤ 2 ^ 56 = pow-le-pow_right {n = 2} (omega arith) exponent in
    let small = byte-lt x p in
    let times : byte x p * 2 ^ (8 * p) ≤ 255 * 2 ^ (8 * p) = mul-le-mul_right (2 ^ (8 * p)) (omega arith) in
    mod-eq_of_lt (omega arith)
