use Rattle.std.proofs.Common.{◌≡◌, ◌++◌}
use Rattle.stepped_networks.specs.RuledSteps.{steps_below, steps_along}
use Rattle.stepped_networks.proofs.ruling.push_steps.Given as goal

abbrev pub invariant-loop-j : goal.invariant-loop-j
invariant-loop-j l = l.steps.items ≡ l.initial.steps.items ++ steps_below (steps_along l.i l.k) l.j
