use Rattle.tract_classes.proofs.PartsOfSets.{largest_itself}
use Rattle.tract_classes.proofs.partition.largest_within.Goals as goal

pub returns-then-has : goal.returns-then-has
returns-then-has c = largest_itself c.args.class.now c.args.rel (c.has.ensures.0 c.if-has.true)
