use Rattle.std.proofs.Common.{◌≡◌}
use Rattle.stepped_networks.specs.RuledSteps.{steps_below, steps_from}
use Rattle.stepped_networks.proofs.ruling.all_steps.Given as goal

abbrev pub invariant-loop-i : goal.invariant-loop-i
invariant-loop-i l = l.steps.items ≡ steps_below (steps_from l.nodes) l.i
