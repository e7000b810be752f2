-- Why a list of nodes is no refutation of a network: the first fault of its form, else the first fault of its networks.
use Rattle.std.specs.Prelude.{◌≡◌, ℕ, zero, suc, ◌+◌, ◌<◌, ◌⊎◌, if◌then◌else◌, List, [], ◌∷◌, length, drop, slice_get, slice_index, Some, Contains}
use Rattle.calculus_table.specs.Algebra.{Algebra}
use Rattle.network_words.specs.Edge.{edge_at, IsProperTriple}
use Rattle.refutation.specs.declared.fault.TreeFault.{TreeFault}
use Rattle.refutation.specs.declared.fault.TreeFault.TheVariants.{Uncovered, NotEmpty, BadTree, BadStep, Memory}
use Rattle.split_trees.specs.declared.tree.Kind.{Kind}
use Rattle.split_trees.specs.declared.tree.Kind.TheVariants.{Empty, Found, Open, Later, Split}
use Rattle.split_trees.specs.declared.tree.Step.{Step}
use Rattle.split_trees.specs.Tree.{TreeNode, listed, is_split, arity, AreSteps, NestedTree, leaf, split, Branches, no_branches, branch, size, parts_of, StandsFor}
use Rattle.split_trees.specs.Refutes.{IsWorked, IsCovered, met_at, Refutes}

-- ---- the form of a tree

-- the number of nodes that k trees have at the front of the list, told by how many children each split lists
abbrev pub nodes_of : ℕ → List TreeNode → ℕ
nodes_of zero nodes = 0
nodes_of (suc k) [] = 0
nodes_of (suc k) (node ∷ rest) = nodes_of (arity node + k) rest + 1

-- the number that child p of node x has in preorder: the first child comes next after x, each further one after the nodes of
-- those before it
abbrev pub child_number : List TreeNode → ℕ → ℕ → ℕ
child_number nodes x p = x + 1 + nodes_of p (drop (x + 1) nodes)

-- these are the numbers of the children of node x in preorder, and there are such nodes
pub record HasNumbers (nodes : List TreeNode) (x : ℕ) (children : List ℕ) : Type 0 where
  pub numbered : (p : ℕ) → p < length children → slice_index children p ≡ child_number nodes x p
  pub inside : (p : ℕ) → p < length children → slice_index children p < length nodes

-- node x is a split of an edge of n nodes, with as many children as parts, one at least
pub record IsSplitAt (n : ℕ) (nodes : List TreeNode) (x : ℕ) (node : TreeNode) : Type 0 where
  pub order : node.i < node.j
  pub below : node.j < n
  pub paired : length node.parts ≡ length node.children
  pub some : 0 < length node.children
  pub numbers : HasNumbers nodes x node.children

-- a node has the form of one of a tree: where it is a split it is a right one, and it is node 0 or stands under it
pub record HasForm (n : ℕ) (nodes : List TreeNode) (x : ℕ) (node : TreeNode) : Type 0 where
  pub is_split : node.kind ≡ Split → IsSplitAt n nodes x node
  pub under_first : x < nodes_of 1 nodes

-- a node of the right form, with steps of three different nodes each
pub record IsFormed (n : ℕ) (nodes : List TreeNode) (x : ℕ) (node : TreeNode) : Type 0 where
  pub form : HasForm n nodes x node
  pub steps : AreSteps n node.steps

-- so is each node
abbrev pub AreFormed : ℕ → List TreeNode → Type 0
AreFormed n nodes = (x : ℕ) (node : TreeNode) → slice_get nodes x ≡ Some node → IsFormed n nodes x node

-- step s of the list is the first one that isn't of three different nodes
pub record IsFirstBadStep (n : ℕ) (steps : List Step) (s : ℕ) : Type 0 where
  pub step : Step
  pub is_there : slice_get steps s ≡ Some step
  pub here : ¬ IsProperTriple n step.i step.j step.k
  pub before : (t : ℕ) (other : Step) → t < s → slice_get steps t ≡ Some other → IsProperTriple n other.i other.j other.k

-- so is step s of the node
pub record HasBadStep (n : ℕ) (node : TreeNode) (s : ℕ) : Type 0 where
  pub steps : List Step
  pub steps_are : node.steps ≡ listed steps
  pub first : IsFirstBadStep n steps s

-- node x is there, and those before it are formed
pub record IsReached (n : ℕ) (nodes : List TreeNode) (x : ℕ) (node : TreeNode) : Type 0 where
  pub is_there : slice_get nodes x ≡ Some node
  pub before : (y : ℕ) (other : TreeNode) → y < x → slice_get nodes y ≡ Some other → IsFormed n nodes y other

-- node x is the first that isn't formed, since it hasn't the right form
pub record IsFirstBadForm (n : ℕ) (nodes : List TreeNode) (x : ℕ) : Type 0 where
  pub node : TreeNode
  pub reached : IsReached n nodes x node
  pub form : ¬ HasForm n nodes x node

-- node x is the first that isn't formed, since its step s is the first that isn't of three different nodes
pub record IsFirstBadSteps (n : ℕ) (nodes : List TreeNode) (x s : ℕ) : Type 0 where
  pub node : TreeNode
  pub reached : IsReached n nodes x node
  pub form : HasForm n nodes x node
  pub step : HasBadStep n node s

-- the first fault of the forms and steps
abbrev pub IsFormFault : ℕ → List TreeNode → TreeFault → Type 0
IsFormFault n nodes (BadTree x) = IsFirstBadForm n nodes x
IsFormFault n nodes (BadStep x s) = IsFirstBadSteps n nodes x s
IsFormFault n nodes (NotEmpty x) = ⊥
IsFormFault n nodes (Uncovered x) = ⊥
IsFormFault n nodes Memory = ⊥

-- ---- the networks of a tree

-- the fault of a leaf of which the network was worked
abbrev pub IsLeafFault : Kind → List ℕ → ℕ → TreeFault → Type 0
IsLeafFault Empty worked x fault = (fault ≡ NotEmpty x) × (¬ Contains worked 0)
IsLeafFault Found worked x fault = fault ≡ BadTree x
IsLeafFault Open worked x fault = fault ≡ BadTree x
IsLeafFault Later worked x fault = fault ≡ BadTree x
IsLeafFault Split worked x fault = ⊥

-- the first fault of the networks of a tree, in preorder, where the first node has the number x
abbrev mutual
  pub IsFirstFault : Algebra → ℕ → List ℕ → TreeFault → ℕ → NestedTree → Type 0
  IsFirstFault m n words fault x (leaf kind steps) =
      (worked : List ℕ) × IsWorked m n steps words worked × IsLeafFault kind worked x fault
  IsFirstFault m n words fault x (split i j steps branches) =
      (worked : List ℕ) × IsWorked m n steps words worked
      × (((fault ≡ Uncovered x) × (¬ IsCovered worked (edge_at n i j) (parts_of branches)))
      ⊎ (IsCovered worked (edge_at n i j) (parts_of branches) × IsFirstFaultAmong m n worked (edge_at n i j) fault (x + 1) branches))

  pub IsFirstFaultAmong : Algebra → ℕ → List ℕ → ℕ → TreeFault → ℕ → Branches → Type 0
  IsFirstFaultAmong m n worked e fault x no_branches = ⊥
  IsFirstFaultAmong m n worked e fault x (branch part child rest) =
      IsFirstFault m n (met_at worked e part) fault x child
      ⊎ (Refutes m n (met_at worked e part) child × IsFirstFaultAmong m n worked e fault (x + size child) rest)

-- the list stands for a tree, and this is the first fault of its networks
pub record IsNetworkFault (m : Algebra) (n : ℕ) (words : List ℕ) (nodes : List TreeNode) (fault : TreeFault) : Type 0 where
  pub tree : NestedTree
  pub stands : StandsFor n nodes tree
  pub first : IsFirstFault m n words fault 0 tree

-- ---- faults

-- a list without nodes is at fault at node 0; of others the first fault of forms and steps decides, then the first of the
-- networks; out of memory has no cause in the tree
abbrev pub IsFaultOf : Algebra → ℕ → List ℕ → List TreeNode → TreeFault → Type 0
IsFaultOf m n words nodes fault =
    ((nodes ≡ []) × (fault ≡ BadTree 0)) ⊎ ((0 < length nodes) × IsFormFault n nodes fault) ⊎ IsNetworkFault m n words nodes fault
    ⊎ (fault ≡ Memory)
