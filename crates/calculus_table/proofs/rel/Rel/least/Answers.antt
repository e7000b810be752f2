use Rattle.std.proofs.Common.{◌≡◌, ◌≢◌, ℕ, ◌<◌, ◌≤◌, ◌^◌, arith, w64, inl, inr}
use Rattle.std.specs.Int.{bit_at, trailing_zeros}
use Rattle.std.proofs.lemmas.Bool.{cases_lt}
use Rattle.std.proofs.lemmas.Nat.Bits.{bit_at-trailing_zeros}
use Rattle.calculus_table.specs.Rel.{Has}
use Rattle.calculus_table.proofs.rel.Rel.least.Goals as goal

-- no member is below the place of the lowest 1
trailing_zeros-least : (n r : ℕ) → 0 < n → n < 2 ^ 64 → Has n r → trailing_zeros w64 n ≤ r
trailing_zeros-least n r some fits h = elim (cases_lt r (trailing_zeros w64 n)) [
  | inl l ↦ absurd (let e : bit_at n r ≡ 0 = (bit_at-trailing_zeros w64 n some fits).2 r l in omega arith)
  | inr g ↦ g
]

pub returns : goal.returns
returns c =
    let n = c.self.inside.word in
    let differs : n ≢ 0 = rw c.self.view_is c.requires in
    let some : 0 < n = omega arith in
    let p = bit_at-trailing_zeros w64 n some c.self.invariant in
    rw (← c.self.view_is) (record { member = p.1; below = p.0; least = λ r h. trailing_zeros-least n r some c.self.invariant h })
