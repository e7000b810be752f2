-- A set within another has fewer members, unless it is the same.
use Rattle.std.proofs.Common.{◌≡◌, ◌≢◌, ℕ, zero, suc, ◌+◌, ◌/◌, ◌%◌, ◌<◌, ◌≤◌, refl, sym, ap, ◌∙◌, subst, arith}
use Rattle.std.specs.Prelude.{count_ones}
use Rattle.std.specs.Int.Count.{ones}
use Rattle.std.proofs.lemmas.Nat.{ones_cat, div-add-mod', mod_below}
use Rattle.std.proofs.lemmas.Nat.Bits.{bit_at_lowest, bit_at-suc, bit_at-lt}
use Rattle.calculus_table.specs.Rel.{IsWithin}

-- the lowest member and the others
count_split : (n : ℕ) → count_ones n ≡ count_ones (n / 2) + count_ones (n % 2)
count_split n = subst (λ x. count_ones x ≡ count_ones (n / 2) + count_ones (n % 2)) (div-add-mod' n 2) (ones_cat 1 (n / 2) (n % 2) (mod_below n 2 (omega arith)))

count_bit : (b : ℕ) → b < 2 → count_ones b ≡ b
unfolding ones
count_bit zero h = refl
count_bit (suc zero) h = refl
count_bit (suc (suc b)) h = absurd (omega arith)

pub count_zero : count_ones 0 ≡ 0
count_zero = count_bit 0 (omega arith)

count_step : (n : ℕ) → count_ones n ≡ count_ones (n / 2) + n % 2
count_step n = count_split n ∙ ap (λ x. count_ones (n / 2) + x) (count_bit (n % 2) (mod_below n 2 (omega arith)))

within_half : (b a : ℕ) → IsWithin b a → IsWithin (b / 2) (a / 2)
within_half b a h = record { each = λ r e. sym (bit_at-suc a r) ∙ h.each (suc r) (bit_at-suc b r ∙ e) }

within_lowest : (b a : ℕ) → IsWithin b a → b % 2 ≤ a % 2
within_lowest b a h = grind (arith, bit_at_lowest b, bit_at_lowest a, h.each 0, bit_at-lt b 0, bit_at-lt a 0)

-- it has no more
record IsFewer (b a : ℕ) : Type 0 where
  fewer : count_ones b ≤ count_ones a
  same : count_ones b ≡ count_ones a → b ≡ a

is_fewer : (d b a : ℕ) → a ≤ d → b ≤ d → IsWithin b a → IsFewer b a
is_fewer zero b a la lb h = (let e : b ≡ a = omega arith in record { fewer = subst (λ x. count_ones b ≤ count_ones x) e (omega arith); same = λ _. e })
is_fewer (suc d) b a la lb h =
    let rest : IsFewer (b / 2) (a / 2) = is_fewer d (b / 2) (a / 2) (omega arith) (omega arith) (within_half b a h) in
    let first = count_step a in
    let second = count_step b in
    let low = within_lowest b a h in
    record {
      fewer = omega (arith, rest.fewer);
      same = λ e. (let half : b / 2 ≡ a / 2 = rest.same (omega (arith, rest.fewer)) in omega (arith, rest.fewer, div-add-mod' a 2, div-add-mod' b 2));
    }

pub count-within : (b a : ℕ) → IsWithin b a → b ≢ a → count_ones b < count_ones a
count-within b a h ne =
    let f : IsFewer b a = is_fewer (a + b) b a (omega arith) (omega arith) h in
    grind (arith, f.fewer, f.same, ne)
