use Rattle.std.proofs.Common.{◌≡◌, take}
use Rattle.tract_classes.specs.Generators.{meet_of_around}
use Rattle.tract_classes.proofs.generators.meet_of_around.Given as goal

abbrev pub invariant-loop-set : goal.invariant-loop-set
invariant-loop-set l = l.meet ≡ meet_of_around (take l.set-index l.sets) l.word
