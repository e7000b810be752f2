use Rattle.std.proofs.Common.{arith, ◌+◌}
use Rattle.refutation.proofs.Counts.{next-lt, next-more}
use Rattle.refutation.proofs.forms.after_children.Goals as goal

pub bounds-ends-next : goal.bounds-ends-next
bounds-ends-next c =
    next-lt c.args.nodes.now c.args.x c.requires.below c.args.ends.now (c.args.x + 1) c.requires.ends (omega arith) c.loop.next c.loop.counter c.loop.invariant

pub loop-preserved : goal.loop-preserved
loop-preserved c =
    next-more c.args.nodes.now c.args.x c.requires.below c.args.ends.now (c.args.x + 1) c.requires.ends (omega arith) c.loop.next c.loop.counter c.loop.invariant
