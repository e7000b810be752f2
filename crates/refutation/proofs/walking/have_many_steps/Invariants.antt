use Rattle.std.proofs.Common.{◌≡◌, ◌-◌, take}
use Rattle.std.specs.List.{sum_by}
use Rattle.refutation.specs.declared.walking.TheConstants.{MANY}
use Rattle.split_trees.specs.Steps.{steps_count}
use Rattle.refutation.proofs.walking.have_many_steps.Given as goal

abbrev pub invariant-loop-node : goal.invariant-loop-node
invariant-loop-node l = l.left ≡ MANY - sum_by (λ node. steps_count node.steps) (take l.node-index l.nodes)
