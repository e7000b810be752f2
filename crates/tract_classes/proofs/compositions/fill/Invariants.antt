use Rattle.tract_classes.proofs.TurnedSets.{IsTableBelow}
use Rattle.tract_classes.proofs.compositions.fill.Given as goal

abbrev pub invariant-loop-k : goal.invariant-loop-k
invariant-loop-k g l = IsTableBelow (g.C.Compose.algebra l.c) l.b l.first l.k l.table
