use Rattle.tract_classes.specs.Class.{EachMember}
use Rattle.tract_classes.specs.Straight.{Agree}
use Rattle.tract_classes.proofs.FirstMembers.{EachBefore}
use Rattle.tract_classes.proofs.straight.agree_from.Given as goal

abbrev pub invariant-loop-b : goal.invariant-loop-b
invariant-loop-b g l = EachBefore l.class (λ b. EachMember l.class (Agree (g.C.Compose.algebra l.c) l.a b)) l.b-index
