-- A set without one of its members.
use Rattle.std.proofs.Common.{◌≡◌, ◌≢◌, ℕ, ◌*◌, ◌^◌, ◌%◌, ◌<◌, ◌≤◌, subst, sym, arith, inl, inr}
use Rattle.std.specs.Prelude.{bit_xor}
use Rattle.std.specs.Int.{bit_at}
use Rattle.std.proofs.lemmas.Bool.{cases_eq}
use Rattle.std.proofs.lemmas.Nat.Bits.{bit_at_xor, bit_at-lt, bit_at-pow_same, bit_at-pow_other}
use Rattle.std.proofs.lemmas.Nat.{pow_below}
use Rattle.calculus_table.specs.Rel.{Has, IsWithin, IsWithout}
use Rattle.calculus_table.proofs.Sets.{IsWithin-le}

-- the word with the one bit k
pub single_word : (k : ℕ) → k < 64 → 1 * 2 ^ k % 2 ^ 64 ≡ 2 ^ k
single_word k h = omega (arith, pow_below k 64 h)

xor-same : (n k : ℕ) → Has n k → bit_at (bit_xor n (2 ^ k)) k ≡ 0
xor-same n k h = omega (arith, bit_at_xor n (2 ^ k) k, bit_at-pow_same k)

xor-other : (n k t : ℕ) → t ≢ k → bit_at (bit_xor n (2 ^ k)) t ≡ bit_at n t
xor-other n k t ne = omega (arith, bit_at_xor n (2 ^ k) t, bit_at-pow_other k t ne, bit_at-lt n t)

without-within : (n k : ℕ) → Has n k → IsWithin (bit_xor n (2 ^ k)) n
without-within n k h = record {
  each = λ t p. elim (cases_eq t k) [
    | inl e ↦ subst (Has n) (sym e) h
    | inr ne ↦ omega (arith, xor-other n k t ne)
  ];
}

without-less : (n k : ℕ) → Has n k → bit_xor n (2 ^ k) < n
without-less n k h =
    let le : bit_xor n (2 ^ k) ≤ n = IsWithin-le _ _ (without-within n k h) in
    elim (cases_eq (bit_xor n (2 ^ k)) n) [
      | inl e ↦ (let gone : bit_at n k ≡ 0 = subst (λ m. bit_at m k ≡ 0) e (xor-same n k h) in absurd (omega arith))
      | inr ne ↦ omega arith
    ]

-- the others of a member
pub IsWithout-xor : (n k : ℕ) → Has n k → IsWithout n k (bit_xor n (2 ^ k))
IsWithout-xor n k h = record {
  member = h;
  others = λ t p ne. omega (arith, xor-other n k t ne);
  within = without-within n k h;
  less = without-less n k h;
}
