use Rattle.std.proofs.Common.{◌≡◌, ℕ, ◌<◌, slice_get, Some}
use Rattle.split_trees.specs.Tree.{TreeNode}
use Rattle.refutation.specs.TreeFault.{IsFormed}
use Rattle.refutation.proofs.forms.check_forms.Given as goal

abbrev pub invariant-loop-x : goal.invariant-loop-x
invariant-loop-x l = (y : ℕ) (other : TreeNode) → y < l.x → slice_get l.nodes y ≡ Some other → IsFormed l.size l.nodes y other
