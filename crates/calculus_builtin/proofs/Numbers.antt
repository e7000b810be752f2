-- A fact of each number below a bound, given number by number.
use Rattle.std.proofs.Common.{◌≡◌, ℕ, zero, suc, ◌<◌, subst, arith, inl, inr}
use Rattle.std.proofs.lemmas.Bool.{cases_lt}

-- P holds of each number below the bound
abbrev pub EachNumber : ℕ → (ℕ → Type 0) → Type 0
EachNumber zero P = Unit {0}
EachNumber (suc n) P = P n × EachNumber n P

pub each_number-at : (n : ℕ) (P : ℕ → Type 0) → EachNumber n P → (k : ℕ) → k < n → P k
each_number-at zero P e k h = absurd (omega arith)
each_number-at (suc n) P e k h = elim (cases_lt k n) [
  | inl l ↦ each_number-at n P e.1 k l
  | inr g ↦ (let same : n ≡ k = omega arith in subst P same e.0)
]
