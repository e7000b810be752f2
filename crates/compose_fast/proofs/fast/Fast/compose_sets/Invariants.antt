use Rattle.calculus_table.specs.Composition.{row_composition}
use Rattle.calculus_table.proofs.Unions.{IsUnionBut}
use Rattle.compose_fast.proofs.fast.Fast.compose_sets.Given as goal

abbrev pub invariant-loop-b : goal.invariant-loop-b
invariant-loop-b l = IsUnionBut l.self.size (λ r. row_composition l.self r l.b) l.fn.a l.left l.all

abbrev pub decreases-loop-b : goal.decreases-loop-b
decreases-loop-b l = l.left
