use Rattle.tract_classes.specs.Straight.{Agree}
use Rattle.tract_classes.proofs.FirstMembers.{EachBefore}
use Rattle.tract_classes.proofs.straight.agree_along.Given as goal

abbrev pub invariant-loop-word : goal.invariant-loop-word
invariant-loop-word g l = EachBefore l.class (Agree (g.C.Compose.algebra l.c) l.a l.b) l.word-index
