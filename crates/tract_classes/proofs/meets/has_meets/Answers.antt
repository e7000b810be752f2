use Rattle.std.proofs.Common.{refl}
use Rattle.tract_classes.specs.Generators.{HasMeets}
use Rattle.tract_classes.proofs.FirstMembers.{one_more, no_more}
use Rattle.tract_classes.proofs.meets.has_meets.Goals as goal

pub loop-a-preserved : goal.loop-a-preserved
loop-a-preserved c =
    one_more c.args.class.now c.members-a-items.result.now c.members-a-items.ensures.class.ascending c.members-a-items.ensures.value c.loop-a.a-index
    (HasMeets c.args.class.now c.args.sets.now) c.loop-a.invariant (c.has_meets_of.ensures.0 c.if-not-has_meets_of.false)

pub returns : goal.returns
returns c = (
  λ _. no_more c.args.class.now c.members-a-items.result.now c.members-a-items.ensures.class.ascending c.members-a-items.ensures.value c.loop-a.a-index
      (HasMeets c.args.class.now c.args.sets.now) c.loop-a.invariant c.loop-a-test.false,
  λ _. refl,
)
