use Rattle.std.proofs.Common.{ℕ, ◌<◌}
use Rattle.calculus_table.specs.TripleLaw.{ObeysAt}
use Rattle.calculus_table.proofs.table.Table.first_broken_pair.Given as goal

abbrev pub invariant-loop-s : goal.invariant-loop-s
invariant-loop-s l = (s t : ℕ) → s < l.s → t < l.self.size → ObeysAt l.law l.self l.r s t
