use Rattle.std.proofs.Common.{take}
use Rattle.allen_real.specs.Classes.{IsNew}
use Rattle.allen_real.proofs.classes.has_class.Given as goal

abbrev pub invariant-loop-p : goal.invariant-loop-p
invariant-loop-p l = IsNew l.nodes l.bases (take l.p-index l.members) l.q
