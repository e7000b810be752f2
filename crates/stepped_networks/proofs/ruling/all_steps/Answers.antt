use Rattle.std.proofs.Common.{◌≡◌, ap, ◌∙◌, arith}
use Rattle.stepped_networks.specs.RuledSteps.{steps_below, steps_from, all_steps}
use Rattle.stepped_networks.proofs.ruling.all_steps.Goals as goal

pub returns : goal.returns
unfolding all_steps
returns c = let end : c.loop-i.i ≡ c.args.nodes = omega (arith, c.loop-i-test.false, c.loop-i.auto.i-end) in c.loop-i.invariant ∙ ap (steps_below (steps_from c.args.nodes)) end
