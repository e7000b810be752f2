use Rattle.std.proofs.Common.{◌≡◌, ◌++◌}
use Rattle.stepped_networks.specs.RuledSteps.{steps_below, steps_of_edge}
use Rattle.stepped_networks.proofs.ruling.push_steps_from.Given as goal

abbrev pub invariant-loop-k : goal.invariant-loop-k
invariant-loop-k l = l.steps.items ≡ l.initial.steps.items ++ steps_below (steps_of_edge l.nodes l.i) l.k
