use Rattle.std.proofs.Common.{◌*◌}
use Rattle.allen_real.specs.Classes.{AreMembers}
use Rattle.allen_real.proofs.classes.members.Given as goal

abbrev pub invariant-loop-node : goal.invariant-loop-node
invariant-loop-node l = AreMembers l.nodes l.bases (2 * l.node) l.members.items
