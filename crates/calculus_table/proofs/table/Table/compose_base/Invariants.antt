use Rattle.calculus_table.specs.Algebra.{entry_at}
use Rattle.calculus_table.proofs.Unions.{IsUnionBut}
use Rattle.calculus_table.proofs.table.Table.compose_base.Given as goal

abbrev pub invariant-loop-left : goal.invariant-loop-left
invariant-loop-left l = IsUnionBut l.self.size (λ s. entry_at l.self l.r s) l.fn.b l.left l.all

abbrev pub decreases-loop-left : goal.decreases-loop-left
decreases-loop-left l = l.left
