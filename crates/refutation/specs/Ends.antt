-- Where the nodes under each node end.
use Rattle.std.specs.Prelude.{◌≡◌, ℕ, ◌+◌, ◌≤◌, List, length, drop, slice_index}
use Rattle.split_trees.specs.Tree.{TreeNode}
use Rattle.refutation.specs.TreeFault.{nodes_of}

-- for each node from `from` up the number after the last node under it, and after the last node of all
pub record AreEnds (nodes : List TreeNode) (from : ℕ) (ends : List ℕ) : Type 0 where
  pub length_is : length ends ≡ length nodes + 1
  pub each : (y : ℕ) → from ≤ y → y ≤ length nodes → slice_index ends y ≡ y + nodes_of 1 (drop y nodes)
