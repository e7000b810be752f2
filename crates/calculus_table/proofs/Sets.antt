-- Sets of base relations by their members.
use Rattle.std.proofs.Common.{◌≡◌, ℕ, ◌^◌, ◌≤◌, arith, ◌⊎◌, inl, inr}
use Rattle.std.specs.Prelude.{bit_and, bit_or}
use Rattle.std.proofs.lemmas.Nat.{and_le_r}
use Rattle.std.proofs.lemmas.Nat.Bits.{bit_at_and, bit_at_or, bit_at-lt, bit_at-zero, bit_at-pow_same, same_from_bits}
use Rattle.calculus_table.specs.Rel.{Has, IsWithin}

-- ---- members of a meet, a union, a single set and the empty set

pub Has-meet : (a b r : ℕ) → Has a r → Has b r → Has (bit_and a b) r
Has-meet a b r p q = omega (arith, bit_at_and a b r)

pub Has-meet_l : (a b r : ℕ) → Has (bit_and a b) r → Has a r
Has-meet_l a b r p = omega (arith, bit_at_and a b r, bit_at-lt a r, bit_at-lt b r)

pub Has-meet_r : (a b r : ℕ) → Has (bit_and a b) r → Has b r
Has-meet_r a b r p = omega (arith, bit_at_and a b r, bit_at-lt a r, bit_at-lt b r)

pub Has-union_l : (a b r : ℕ) → Has a r → Has (bit_or a b) r
Has-union_l a b r p = omega (arith, bit_at_or a b r, bit_at-lt b r)

pub Has-union_r : (a b r : ℕ) → Has b r → Has (bit_or a b) r
Has-union_r a b r p = omega (arith, bit_at_or a b r, bit_at-lt a r)

pub Has-union : (a b r : ℕ) → Has (bit_or a b) r → Has a r ⊎ Has b r
Has-union a b r p = grind (arith, bit_at_or a b r, bit_at-lt a r, bit_at-lt b r)

pub not_Has-empty : (r : ℕ) → Has 0 r → ⊥
not_Has-empty r p = omega (arith, bit_at-zero r)

pub Has-single : (r : ℕ) → Has (2 ^ r) r
Has-single r = bit_at-pow_same r

-- ---- sets with the same members

pub IsWithin-refl : (a : ℕ) → IsWithin a a
IsWithin-refl a = record { each = λ r p. p }

pub IsWithin-trans : (a b c : ℕ) → IsWithin a b → IsWithin b c → IsWithin a c
IsWithin-trans a b c p q = record { each = λ r h. q.each r (p.each r h) }

pub IsWithin-antisym : (a b : ℕ) → IsWithin a b → IsWithin b a → a ≡ b
IsWithin-antisym a b p q =
    same_from_bits a b (λ r. grind (arith, bit_at-lt a r, bit_at-lt b r, p.each r, q.each r))

pub IsWithin-meet : (a b c : ℕ) → IsWithin a b → IsWithin a c → IsWithin a (bit_and b c)
IsWithin-meet a b c p q = record { each = λ r h. Has-meet b c r (p.each r h) (q.each r h) }

pub IsWithin-meet_l : (a b : ℕ) → IsWithin (bit_and a b) a
IsWithin-meet_l a b = record { each = λ r h. Has-meet_l a b r h }

pub IsWithin-meet_r : (a b : ℕ) → IsWithin (bit_and a b) b
IsWithin-meet_r a b = record { each = λ r h. Has-meet_r a b r h }

pub meet-within : (a b : ℕ) → IsWithin a b → bit_and a b ≡ a
meet-within a b p = IsWithin-antisym (bit_and a b) a (IsWithin-meet_l a b) (IsWithin-meet a a b (IsWithin-refl a) p)

pub within-meet : (a b : ℕ) → bit_and a b ≡ a → IsWithin a b
within-meet a b e = record { each = λ r h. Has-meet_r a b r (rw e h) }

pub IsWithin-empty : (a : ℕ) → IsWithin 0 a
IsWithin-empty a = record { each = λ r h. absurd (not_Has-empty r h) }

pub empty-within : (a : ℕ) → IsWithin a 0 → a ≡ 0
empty-within a p = IsWithin-antisym a 0 p (IsWithin-empty a)

-- a set within another is no greater number
pub IsWithin-le : (a b : ℕ) → IsWithin a b → a ≤ b
IsWithin-le a b p = rw (meet-within a b p) at (and_le_r a b)

pub IsWithin-union : (a b c : ℕ) → IsWithin a c → IsWithin b c → IsWithin (bit_or a b) c
IsWithin-union a b c p q = record {
  each = λ r h. elim (Has-union a b r h) [ inl x ↦ p.each r x | inr y ↦ q.each r y ];
}

pub IsWithin-union_l : (a b : ℕ) → IsWithin a (bit_or a b)
IsWithin-union_l a b = record { each = λ r h. Has-union_l a b r h }

pub IsWithin-union_r : (a b : ℕ) → IsWithin b (bit_or a b)
IsWithin-union_r a b = record { each = λ r h. Has-union_r a b r h }
