-- Sets of base relations written down, as a table of compositions has them.
use Rattle.std.specs.Prelude.{ℕ, bit_or}

-- the members of either set
infixl 50 ◌∪◌
abbrev pub ◌∪◌ : ℕ → ℕ → ℕ
a ∪ b = bit_or a b
