-- The steps of a node as contracts see them.
use Rattle.std.specs.Prelude.{ℕ, length}
use Rattle.split_trees.specs.declared.tree.Steps.{Steps}
use Rattle.split_trees.specs.declared.tree.Steps.TheVariants.{Sweep, List}
use Rattle.split_trees.specs.Tree.{NodeSteps, sweep, listed}

-- the steps as a list, where there is one
abbrev pub node_steps : Steps → NodeSteps
node_steps Sweep = sweep
node_steps (List steps) = listed steps.items

-- the number of steps that are listed
abbrev pub steps_count : NodeSteps → ℕ
steps_count sweep = 0
steps_count (listed steps) = length steps
