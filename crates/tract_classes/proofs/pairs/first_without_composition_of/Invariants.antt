use Rattle.tract_classes.proofs.FirstMembers.{EachBefore}
use Rattle.tract_classes.specs.Class.{HasComposition}
use Rattle.tract_classes.proofs.pairs.first_without_composition_of.Given as goal

abbrev pub invariant-loop-b : goal.invariant-loop-b
invariant-loop-b g l = EachBefore l.class (HasComposition (g.C.Compose.algebra l.c) l.class l.a) l.b-index
