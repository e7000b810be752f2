use Rattle.tract_classes.proofs.FirstMembers.{EachBefore}
use Rattle.tract_classes.specs.Class.{HasConverse}
use Rattle.tract_classes.proofs.closed.first_without_converse.Given as goal

abbrev pub invariant-loop-a : goal.invariant-loop-a
invariant-loop-a g l = EachBefore l.class (HasConverse (g.C.Compose.algebra l.c) l.class) l.a-index
