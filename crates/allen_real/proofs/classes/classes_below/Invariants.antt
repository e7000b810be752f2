use Rattle.std.proofs.Common.{◌≡◌, take}
use Rattle.allen_real.specs.Classes.{classes_below}
use Rattle.allen_real.proofs.classes.classes_below.Given as goal

abbrev pub invariant-loop-p : goal.invariant-loop-p
invariant-loop-p l = l.count ≡ classes_below l.nodes l.bases (take l.p-index l.members) l.q
