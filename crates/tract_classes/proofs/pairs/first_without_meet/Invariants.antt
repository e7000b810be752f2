use Rattle.tract_classes.specs.Class.{EachMember, HasMeet}
use Rattle.tract_classes.proofs.FirstMembers.{EachBefore}
use Rattle.tract_classes.proofs.pairs.first_without_meet.Given as goal

abbrev pub invariant-loop-a : goal.invariant-loop-a
invariant-loop-a l = EachBefore l.class (λ a. EachMember l.class (HasMeet l.class a)) l.a-index
