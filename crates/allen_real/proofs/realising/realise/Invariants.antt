use Rattle.std.proofs.Common.{◌≡◌, map}
use Rattle.std.specs.List.{range_with_len}
use Rattle.allen_real.specs.Classes.{ranked}
use Rattle.allen_real.proofs.realising.realise.Given as goal

abbrev pub invariant-loop-node : goal.invariant-loop-node
invariant-loop-node l = l.intervals.items ≡ map (ranked l.nodes l.bases l.members.items) (range_with_len 0 l.node)
