use Rattle.tract_classes.specs.Generators.{HasMeets}
use Rattle.tract_classes.proofs.FirstMembers.{EachBefore}
use Rattle.tract_classes.proofs.meets.has_meets.Given as goal

abbrev pub invariant-loop-a : goal.invariant-loop-a
invariant-loop-a l = EachBefore l.class (HasMeets l.class l.sets) l.a-index
