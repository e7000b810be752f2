use Rattle.std.proofs.Common.{◌≡◌, take}
use Rattle.split_search.specs.Straight.{several_count}
use Rattle.minimal_net.proofs.labeller.several.Given as goal

abbrev pub invariant-loop-edge : goal.invariant-loop-edge
invariant-loop-edge l = l.count ≡ several_count (take l.edge l.path.top)
