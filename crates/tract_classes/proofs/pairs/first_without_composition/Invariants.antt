use Rattle.tract_classes.specs.Class.{EachMember, HasComposition}
use Rattle.tract_classes.proofs.FirstMembers.{EachBefore}
use Rattle.tract_classes.proofs.pairs.first_without_composition.Given as goal

abbrev pub invariant-loop-a : goal.invariant-loop-a
invariant-loop-a g l = EachBefore l.class (λ a. EachMember l.class (HasComposition (g.C.Compose.algebra l.c) l.class a)) l.a-index
