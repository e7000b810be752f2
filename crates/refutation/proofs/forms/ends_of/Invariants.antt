use Rattle.refutation.specs.Ends.{AreEnds}
use Rattle.refutation.proofs.forms.ends_of.Given as goal

abbrev pub invariant-loop-x : goal.invariant-loop-x
invariant-loop-x l = AreEnds l.nodes l.x l.ends.items
