-- What a set leaves of one that it is within.
use Rattle.std.proofs.Common.{◌≡◌, ◌≢◌, ℕ, ◌+◌, ◌<◌, ap, arith, inl, inr}
use Rattle.std.specs.Prelude.{bit_and, bit_or, bit_xor}
use Rattle.std.specs.Int.{bit_at}
use Rattle.std.proofs.lemmas.Bool.{cases_eq}
use Rattle.std.proofs.lemmas.Nat.Bits.{bit_at_xor, bit_at_and, bit_at_or, bit_at-lt, bit_at-zero, same_from_bits}
use Rattle.calculus_table.specs.Rel.{Has, IsWithin}
use Rattle.calculus_table.proofs.Sets.{IsWithin-le}

module _ (set a : ℕ) (within : IsWithin a set) where
  -- a bit of the set that is left
  left_bit : (r : ℕ) → bit_at (bit_xor set a) r + bit_at a r ≡ bit_at set r
  left_bit r = elim (cases_eq (bit_at a r) 1) [
    | inl e ↦ omega (arith, bit_at_xor set a r, within.each r e, e)
    | inr ne ↦ omega (arith, bit_at_xor set a r, bit_at-lt a r, bit_at-lt set r)
  ]

  pub left-within : IsWithin (bit_xor set a) set
  left-within = record { each = λ r e. omega (arith, left_bit r, bit_at-lt set r) }

  pub left-apart : bit_and a (bit_xor set a) ≡ 0
  left-apart = same_from_bits (bit_and a (bit_xor set a)) 0 (λ r. omega (arith, bit_at_and a (bit_xor set a) r, left_bit r, bit_at-lt set r, bit_at-zero r))

  pub left-union : bit_or a (bit_xor set a) ≡ set
  left-union = same_from_bits (bit_or a (bit_xor set a)) set (λ r. omega (arith, bit_at_or a (bit_xor set a) r, left_bit r, bit_at-lt set r))

  pub left-less : a ≢ 0 → bit_xor set a < set
  left-less some = elim (cases_eq (bit_xor set a) set) [
    | inl e ↦ absurd (some (same_from_bits a 0 (λ r. omega (arith, left_bit r, ap (λ x. bit_at x r) e, bit_at-zero r))))
    | inr ne ↦ omega (arith, IsWithin-le (bit_xor set a) set left-within, ne)
  ]

-- a set without members is empty
pub empty-from : (a : ℕ) → ((r : ℕ) → ¬ Has a r) → a ≡ 0
empty-from a none = same_from_bits a 0 (λ r. elim (cases_eq (bit_at a r) 1) [
  | inl e ↦ absurd (none r e)
  | inr ne ↦ omega (arith, bit_at-lt a r, bit_at-zero r)
])

-- what is within one of two sets that are apart has nothing in common with the other
pub apart-within : (a b c : ℕ) → IsWithin c b → bit_and a b ≡ 0 → bit_and a c ≡ 0
apart-within a b c w e = same_from_bits (bit_and a c) 0 (λ r. elim (cases_eq (bit_at c r) 1) [
  | inl h ↦ omega (arith, bit_at_and a c r, bit_at_and a b r, w.each r h, ap (λ x. bit_at x r) e, bit_at-zero r, bit_at-lt a r)
  | inr ne ↦ omega (arith, bit_at_and a c r, bit_at-lt c r, bit_at-zero r)
])

pub xor_self : (a : ℕ) → bit_xor a a ≡ 0
xor_self a = same_from_bits (bit_xor a a) 0 (λ r. omega (arith, bit_at_xor a a r, bit_at-lt a r, bit_at-zero r))
