use Rattle.std.proofs.Common.{ℕ}
use Rattle.tract_classes.specs.Class.{EachMember}
use Rattle.tract_classes.specs.Straight.{Agree}
use Rattle.tract_classes.proofs.FirstMembers.{EachBefore}
use Rattle.tract_classes.proofs.straight.is_straight.Given as goal

abbrev pub invariant-loop-a : goal.invariant-loop-a
invariant-loop-a g l =
    let agree : ℕ → ℕ → Type 0 = λ a b. EachMember l.class (Agree (g.C.Compose.algebra l.c) a b) in
    EachBefore l.class (λ a. EachMember l.class (agree a)) l.a-index
