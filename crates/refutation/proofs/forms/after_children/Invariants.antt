use Rattle.std.proofs.Common.{◌≡◌}
use Rattle.refutation.specs.TreeFault.{child_number}
use Rattle.refutation.proofs.forms.after_children.Given as goal

abbrev pub invariant-loop : goal.invariant-loop
invariant-loop l = l.next ≡ child_number l.nodes l.x l.counter
