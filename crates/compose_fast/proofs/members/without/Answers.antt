use Rattle.std.proofs.Common.{◌≡◌, ℕ, ◌*◌, ◌^◌, ◌%◌, ◌<◌, ◌≤◌, subst, ◌∙◌, arith, w64, inl, inr}
use Rattle.std.specs.Prelude.{bit_and}
use Rattle.std.specs.Int.{bit_at, bit_not}
use Rattle.std.proofs.lemmas.Bool.{cases_eq, cases_lt}
use Rattle.std.proofs.lemmas.Nat.Bits.{bit_at_above, bit_at_clear_same, bit_at_clear_other}
use Rattle.calculus_table.specs.Rel.{Has, IsWithout}
use Rattle.calculus_table.proofs.Sets.{IsWithin-meet_l, IsWithin-le}
use Rattle.compose_fast.proofs.members.without.Goals as goal

-- a word without bit k
abbrev cleared : ℕ → ℕ → ℕ
cleared n k = bit_and n (bit_not w64 (1 * 2 ^ k % 2 ^ 64))

-- a word has no bit from 64 on
member-lt : (n t : ℕ) → n < 2 ^ 64 → Has n t → t < 64
member-lt n t fits h = elim (cases_lt t 64) [
  | inl l ↦ l
  | inr g ↦ absurd (let none : bit_at n t ≡ 0 = bit_at_above n 64 t fits g in omega arith)
]

cleared-less : (n k : ℕ) → k < 64 → Has n k → cleared n k < n
cleared-less n k small h =
    let le : cleared n k ≤ n = IsWithin-le _ _ (IsWithin-meet_l n _) in
    elim (cases_eq (cleared n k) n) [
      | inl e ↦ (let gone : bit_at n k ≡ 0 = subst (λ m. bit_at m k ≡ 0) e (bit_at_clear_same w64 n k small) in absurd (omega arith))
      | inr ne ↦ omega arith
    ]

IsWithout-cleared : (n k : ℕ) → n < 2 ^ 64 → k < 64 → Has n k → IsWithout n k (cleared n k)
IsWithout-cleared n k fits small h = record {
  member = h;
  others = λ t p ne. bit_at_clear_other w64 n k small t (member-lt n t fits p) ne ∙ p;
  within = IsWithin-meet_l n _;
  less = cleared-less n k small h;
}

pub returns : goal.returns
returns c =
    let same = c.word.ensures in
    let fits : c.args.a < 2 ^ 64 = omega (arith, c.word.type_inv) in
    rw (c.of.ensures, c.word.ensures) (IsWithout-cleared c.args.a c.args.r fits c.requires.below c.requires.member)
