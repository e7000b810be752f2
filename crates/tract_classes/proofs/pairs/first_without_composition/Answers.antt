use Rattle.tract_classes.specs.Class.{EachMember, HasComposition}
use Rattle.tract_classes.proofs.FirstMembers.{one_more, no_more_pairs, found_pair}
use Rattle.tract_classes.proofs.pairs.first_without_composition.Goals as goal

pub returns-in-Some : goal.returns-in-Some
returns-in-Some g c =
    found_pair c.args.class.now c.members-a-items.result.now c.members-a-items.ensures.class.ascending c.members-a-items.ensures.value c.loop-a.a-index
    (HasComposition (g.C.Compose.algebra c.args.c.now) c.args.class.now) c.in-Some.b c.loop-a.invariant c.loop-a-test.true c.in-Some.ensures

pub loop-a-preserved : goal.loop-a-preserved
loop-a-preserved g c =
    let class = c.args.class.now in
    one_more class c.members-a-items.result.now c.members-a-items.ensures.class.ascending c.members-a-items.ensures.value c.loop-a.a-index
    (λ a. EachMember class (HasComposition (g.C.Compose.algebra c.args.c.now) class a)) c.loop-a.invariant c.in_default.ensures

pub returns : goal.returns
returns g c =
    no_more_pairs c.args.class.now c.members-a-items.result.now c.members-a-items.ensures.class.ascending c.members-a-items.ensures.value c.loop-a.a-index
    (HasComposition (g.C.Compose.algebra c.args.c.now) c.args.class.now) c.loop-a.invariant c.loop-a-test.false
