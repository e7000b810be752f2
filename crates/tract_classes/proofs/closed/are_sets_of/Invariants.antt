use Rattle.calculus_table.specs.Rel.{IsWithin}
use Rattle.calculus_table.specs.Composition.{full_of}
use Rattle.tract_classes.proofs.FirstMembers.{EachBefore}
use Rattle.tract_classes.proofs.closed.are_sets_of.Given as goal

abbrev pub invariant-loop-a : goal.invariant-loop-a
invariant-loop-a g l = EachBefore l.class (λ a. IsWithin a (full_of (g.C.Compose.algebra l.c))) l.a-index
