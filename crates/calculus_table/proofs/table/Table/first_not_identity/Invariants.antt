use Rattle.std.proofs.Common.{ℕ, ◌<◌}
use Rattle.calculus_table.specs.Calculus.{IdentityAt}
use Rattle.calculus_table.proofs.table.Table.first_not_identity.Given as goal

abbrev pub invariant-loop-r : goal.invariant-loop-r
invariant-loop-r l = (r : ℕ) → r < l.r → IdentityAt l.self r
