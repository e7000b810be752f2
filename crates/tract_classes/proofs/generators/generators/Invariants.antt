use Rattle.tract_classes.proofs.GeneratedMeets.{GenerateFrom}
use Rattle.tract_classes.proofs.generators.generators.Given as goal

abbrev pub invariant-loop-k : goal.invariant-loop-k
invariant-loop-k l = GenerateFrom l.class l.k l.sets.items
