-- A set of base relations is a number: base number r is a member where bit r is 1.
use Rattle.std.specs.Prelude.{◌≡◌, ◌≢◌, ℕ, ◌<◌}
use Rattle.std.specs.Int.{bit_at}

-- base number r is a member of the set
abbrev pub Has : ℕ → ℕ → Type 0
Has a r = bit_at a r ≡ 1

-- each member of a is a member of b
pub record IsWithin (a b : ℕ) : Type 0 where
  pub each : (r : ℕ) → Has a r → Has b r

-- rest has the members of a but r, which is one
pub record IsWithout (a r rest : ℕ) : Type 0 where
  pub member : Has a r
  pub others : (t : ℕ) → Has a t → t ≢ r → Has rest t
  pub within : IsWithin rest a
  pub less : rest < a
