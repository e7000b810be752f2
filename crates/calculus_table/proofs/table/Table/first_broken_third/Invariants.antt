use Rattle.std.proofs.Common.{ℕ, ◌<◌}
use Rattle.calculus_table.specs.TripleLaw.{ObeysAt}
use Rattle.calculus_table.proofs.table.Table.first_broken_third.Given as goal

abbrev pub invariant-loop-t : goal.invariant-loop-t
invariant-loop-t l = (t : ℕ) → t < l.t → t < l.self.size → ObeysAt l.law l.self l.r l.s t
