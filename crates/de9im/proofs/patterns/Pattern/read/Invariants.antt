use Rattle.de9im.specs.Patterns.{IsReadTo}
use Rattle.de9im.proofs.patterns.Pattern.read.Given as goal

abbrev pub invariant-loop-k : goal.invariant-loop-k
invariant-loop-k l = IsReadTo l.text l.wants l.k
