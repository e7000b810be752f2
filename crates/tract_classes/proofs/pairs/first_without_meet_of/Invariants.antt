use Rattle.tract_classes.proofs.FirstMembers.{EachBefore}
use Rattle.tract_classes.specs.Class.{HasMeet}
use Rattle.tract_classes.proofs.pairs.first_without_meet_of.Given as goal

abbrev pub invariant-loop-b : goal.invariant-loop-b
invariant-loop-b l = EachBefore l.class (HasMeet l.class l.a) l.b-index
