use Rattle.std.proofs.Common.{ℕ, List, refl, sym, subst}
use Rattle.std.proofs.lemmas.Bool.{false≢true, both_ways}
use Rattle.tract_classes.specs.Class.{EachMember}
use Rattle.tract_classes.specs.Straight.{Agree}
use Rattle.tract_classes.proofs.FirstMembers.{one_more, no_more, not_each}
use Rattle.tract_classes.proofs.straight.agree_from.Goals as goal

pub returns-then-not-agree_along : goal.returns-then-not-agree_along
returns-then-not-agree_along g c =
    let class : List ℕ = c.args.class.now in
    let items : List ℕ = c.members-b-items.result.now in
    let given = c.members-b-items.ensures in
    let agree : ℕ → Type 0 = λ b. EachMember class (Agree (g.C.Compose.algebra c.args.c.now) c.args.a b) in
    let none : ¬ agree c.of.result = λ here.
    both_ways c.agree_along.result c.if-not-agree_along.true (c.agree_along.ensures.1 here) in (
      λ e. absurd (false≢true e),
      λ all. absurd (not_each class items given.class.ascending given.value c.loop-b.b-index agree c.loop-b-test.true
          (λ here. none (subst agree (sym c.of.ensures) here)) all),
    )

pub loop-b-preserved : goal.loop-b-preserved
loop-b-preserved g c =
    let class : List ℕ = c.args.class.now in
    let items : List ℕ = c.members-b-items.result.now in
    let given = c.members-b-items.ensures in
    let agree : ℕ → Type 0 = λ b. EachMember class (Agree (g.C.Compose.algebra c.args.c.now) c.args.a b) in
    one_more class items given.class.ascending given.value c.loop-b.b-index agree c.loop-b.invariant
    (subst agree c.of.ensures (c.agree_along.ensures.0 c.if-not-agree_along.false))

pub returns : goal.returns
returns g c =
    let class : List ℕ = c.args.class.now in
    let items : List ℕ = c.members-b-items.result.now in
    let given = c.members-b-items.ensures in
    let agree : ℕ → Type 0 = λ b. EachMember class (Agree (g.C.Compose.algebra c.args.c.now) c.args.a b) in (
      λ _. no_more class items given.class.ascending given.value c.loop-b.b-index agree c.loop-b.invariant
          c.loop-b-test.false,
      λ _. refl,
    )
