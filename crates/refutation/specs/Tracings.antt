-- A tree while it is traced: what is still to be traced.
use Rattle.std.specs.Prelude.{◌≡◌, ℕ, not, Bool, List, [], ◌∷◌, ◌++◌, map, drop, slice_get, Some}
use Rattle.calculus_table.specs.Algebra.{Algebra}
use Rattle.split_trees.specs.declared.tree.Step.{Step}
use Rattle.refutation.specs.declared.walking.Entered.{Entered}
use Rattle.network_words.specs.Network.{IsNetwork}
use Rattle.split_trees.specs.Tree.{TreeNode, NodeSteps, sweep, NestedTree, is_split, bare, preorder, StandsFor}
use Rattle.split_trees.specs.Refutes.{after_steps}
use Rattle.refutation.specs.Ways.{Pending, nodes_pending, IsWay}
use Rattle.refutation.specs.Traced.{HasShape, IsRuled}
use Rattle.stepped_networks.specs.Passes.{AreStepsOf}

-- the node with other steps, and without what a leaf holds beside its kind and steps
abbrev pub with_steps : TreeNode → NodeSteps → TreeNode
with_steps node steps = record (bare node) { steps = steps }

abbrev pub shape_of : TreeNode → TreeNode
shape_of node = with_steps node sweep

-- a leaf gets the ruled steps up to the first empty set, a split all of them
abbrev pub is_cut : TreeNode → Bool
is_cut node = not (is_split node)

-- each pending tree lists the ruled steps of its network
abbrev pub AllRuled : Algebra → ℕ → List Pending → Type 0
AllRuled m n [] = Unit {0}
AllRuled m n (p ∷ ps) = IsRuled m n p.network p.tree × AllRuled m n ps

-- the traced tree of the nodes has the nodes that were made, and then those of these pending trees, from node x on
pub record AreLeft (m : Algebra) (n : ℕ) (words : List ℕ) (nodes : List TreeNode) (x : ℕ) (made : List TreeNode) (pending : List Pending) : Type 0 where
  pub tree : NestedTree
  pub traced : NestedTree
  pub stands : StandsFor n nodes tree
  pub shape : HasShape tree traced
  pub ruled : IsRuled m n words traced
  pub nodes_are : preorder 0 traced ≡ made ++ nodes_pending x pending
  pub alike : map shape_of (drop x nodes) ≡ map shape_of (nodes_pending x pending)
  pub left : AllRuled m n pending

-- the nodes before x were traced
pub record IsTracing (m : Algebra) (n : ℕ) (words : List ℕ) (nodes : List TreeNode) (x : ℕ) (made : List TreeNode) (way : List Entered) (networks : List (List ℕ)) : Type 0 where
  pub pending : List Pending
  pub are_left : AreLeft m n words nodes x made pending
  pub is_way : IsWay m n nodes way networks pending

-- node x is to be traced over this network
pub record IsTracingAt (m : Algebra) (n : ℕ) (words : List ℕ) (nodes : List TreeNode) (x : ℕ) (made : List TreeNode) (network : List ℕ) (way : List Entered) (networks : List (List ℕ)) : Type 0 where
  pub tree : NestedTree
  pub rest : List Pending
  pub are_left : AreLeft m n words nodes x made (record { tree = tree; network = network } ∷ rest)
  pub is_way : IsWay m n nodes way networks rest

-- node x is to be traced, and its steps led to this network
pub record IsRuledAt (m : Algebra) (n : ℕ) (words : List ℕ) (nodes : List TreeNode) (x : ℕ) (made : List TreeNode) (steps : List Step) (worked : List ℕ) (way : List Entered) (networks : List (List ℕ)) : Type 0 where
  pub node : TreeNode
  pub is_there : slice_get nodes x ≡ Some node
  pub network : List ℕ
  pub is_network : IsNetwork m n worked
  pub are_steps : AreStepsOf (is_cut node) m n network steps
  pub worked_is : worked ≡ after_steps m n network steps
  pub tracing : IsTracingAt m n words nodes x made network way networks
