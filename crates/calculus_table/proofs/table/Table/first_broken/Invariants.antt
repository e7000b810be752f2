use Rattle.calculus_table.specs.TripleLaw.{ObeyBefore}
use Rattle.calculus_table.proofs.table.Table.first_broken.Given as goal

abbrev pub invariant-loop-r : goal.invariant-loop-r
invariant-loop-r l = ObeyBefore l.law l.self l.r
