use Rattle.std.proofs.Common.{◌^◌}
use Rattle.calculus_table.specs.Algebra.{converse_at}
use Rattle.calculus_table.proofs.Unions.{IsUnionBut}
use Rattle.calculus_table.proofs.table.Table.converse.Given as goal

abbrev pub invariant-loop-left : goal.invariant-loop-left
invariant-loop-left l = IsUnionBut l.self.size (λ r. 2 ^ converse_at l.self r) l.fn.a l.left l.all

abbrev pub decreases-loop-left : goal.decreases-loop-left
decreases-loop-left l = l.left
