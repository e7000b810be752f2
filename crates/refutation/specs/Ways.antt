-- The way from the first node to the one that is looked at.
use Rattle.std.specs.Prelude.{◌≡◌, ℕ, ◌+◌, ◌<◌, ◌≤◌, ◌⊎◌, List, [], ◌∷◌, ◌++◌, Bool, true, length, map, drop, slice_get, Some, Contains, All}
use Rattle.calculus_table.specs.Algebra.{Algebra}
use Rattle.network_words.specs.Edge.{edge_at}
use Rattle.refutation.specs.declared.fault.TreeFault.{TreeFault}
use Rattle.refutation.specs.declared.fault.TreeFault.TheVariants.{Uncovered}
use Rattle.split_trees.specs.declared.tree.Kind.{Kind}
use Rattle.split_trees.specs.declared.tree.Kind.TheVariants.{Empty, Found, Open, Later, Split}
use Rattle.network_words.specs.Network.{IsNetwork}
use Rattle.refutation.specs.declared.walking.Entered.{Entered}
use Rattle.split_trees.specs.Tree.{TreeNode, sweep, NestedTree, Branches, no_branches, branch, size, preorder, parts_of, split_parts, bare, IsTree}
use Rattle.split_trees.specs.Refutes.{IsWorked, IsCovered, met_at, Refutes, IsRefutation}
use Rattle.refutation.specs.TreeFault.{IsLeafFault, IsFirstFault, IsNetworkFault, AreFormed}
use Rattle.stepped_networks.specs.Networks.{NetworkStack}

-- nothing is wrong with a node, whose worked network has these sets
abbrev pub IsSoundKind : ℕ → List ℕ → TreeNode → Kind → Type 0
IsSoundKind n worked node Empty = Contains worked 0
IsSoundKind n worked node Found = ⊥
IsSoundKind n worked node Open = ⊥
IsSoundKind n worked node Later = ⊥
IsSoundKind n worked node Split = IsCovered worked (edge_at n node.i node.j) node.parts

abbrev pub IsSound : ℕ → List ℕ → TreeNode → Type 0
IsSound n worked node = IsSoundKind n worked node node.kind

-- what is wrong with node x
abbrev pub IsFaultAtKind : ℕ → List ℕ → TreeNode → ℕ → TreeFault → Kind → Type 0
IsFaultAtKind n worked node x fault Empty = IsLeafFault Empty worked x fault
IsFaultAtKind n worked node x fault Found = IsLeafFault Found worked x fault
IsFaultAtKind n worked node x fault Open = IsLeafFault Open worked x fault
IsFaultAtKind n worked node x fault Later = IsLeafFault Later worked x fault
IsFaultAtKind n worked node x fault Split =
    (fault ≡ Uncovered x) × (¬ IsCovered worked (edge_at n node.i node.j) node.parts)

abbrev pub IsFaultAt : ℕ → List ℕ → TreeNode → ℕ → TreeFault → Type 0
IsFaultAt n worked node x fault = IsFaultAtKind n worked node x fault node.kind

-- ---- what is still to be looked at

-- a tree, and the network from which its first node works its own
pub record Pending : Type 0 where
  pub tree : NestedTree
  pub network : List ℕ

-- the trees of the branches of a split, whose worked network has these sets and whose edge is e
abbrev pub pending_of : List ℕ → ℕ → Branches → List Pending
pending_of worked e no_branches = []
pending_of worked e (branch part child rest) = record { tree = child; network = met_at worked e part } ∷ pending_of worked e rest

-- their nodes, of which the first has the number x
abbrev pub nodes_pending : ℕ → List Pending → List TreeNode
nodes_pending x [] = []
nodes_pending x (p ∷ ps) = preorder x p.tree ++ nodes_pending (x + size p.tree) ps

abbrev pub AreTreesPending : ℕ → List Pending → Type 0
AreTreesPending n [] = Unit {0}
AreTreesPending n (p ∷ ps) = IsTree n p.tree × AreTreesPending n ps

-- each refutes its network
abbrev pub AllRefute : Algebra → ℕ → List Pending → Type 0
AllRefute m n [] = Unit {0}
AllRefute m n (p ∷ ps) = Refutes m n p.network p.tree × AllRefute m n ps

-- the first fault among them, where the first node has the number x
abbrev pub IsFirstPending : Algebra → ℕ → TreeFault → ℕ → List Pending → Type 0
IsFirstPending m n fault x [] = ⊥
IsFirstPending m n fault x (p ∷ ps) =
    IsFirstFault m n p.network fault x p.tree ⊎ (Refutes m n p.network p.tree × IsFirstPending m n fault (x + size p.tree) ps)

-- these are still to be looked at before the whole is known to refute or not
pub record ArePending (m : Algebra) (n : ℕ) (words : List ℕ) (nodes : List TreeNode) (x : ℕ) (pending : List Pending) : Type 0 where
  pub nodes_are : map bare (drop x nodes) ≡ nodes_pending x pending
  pub trees : AreTreesPending n pending
  pub refutes : AllRefute m n pending → IsRefutation m n words nodes
  pub faults : (fault : TreeFault) → IsFirstPending m n fault x pending → IsNetworkFault m n words nodes fault

-- ---- the way

-- a node on the way: its worked network, and which of its branches are pending
pub record IsOnWay (m : Algebra) (n : ℕ) (nodes : List TreeNode) (at : Entered) (worked : List ℕ) (pending rest : List Pending) : Type 0 where
  pub node : TreeNode
  pub is_there : slice_get nodes at.node ≡ Some node
  pub network : IsNetwork m n worked
  pub branches : Branches
  pub parts_are : drop at.next (split_parts node) ≡ parts_of branches
  pub pending_is : pending ≡ pending_of worked (edge_at n node.i node.j) branches ++ rest

-- the nodes on the way, the last one first, with their worked networks, and what is pending of each
abbrev pub IsWay : Algebra → ℕ → List TreeNode → List Entered → List (List ℕ) → List Pending → Type 0
IsWay m n nodes [] [] pending = pending ≡ []
IsWay m n nodes [] (worked ∷ below) pending = ⊥
IsWay m n nodes (at ∷ way) [] pending = ⊥
IsWay m n nodes (at ∷ way) (worked ∷ below) pending =
    (rest : List Pending) × IsOnWay m n nodes at worked pending rest × IsWay m n nodes way below rest

-- the nodes before x were looked at
pub record IsStanding (m : Algebra) (n : ℕ) (words : List ℕ) (nodes : List TreeNode) (x : ℕ) (way : List Entered) (networks : List (List ℕ)) : Type 0 where
  pub pending : List Pending
  pub are_pending : ArePending m n words nodes x pending
  pub is_way : IsWay m n nodes way networks pending

-- node x is to be looked at, and works its network from this one
pub record IsVisiting (m : Algebra) (n : ℕ) (words : List ℕ) (nodes : List TreeNode) (x : ℕ) (network : List ℕ) (way : List Entered) (networks : List (List ℕ)) : Type 0 where
  pub tree : NestedTree
  pub rest : List Pending
  pub are_pending : ArePending m n words nodes x (record { tree = tree; network = network } ∷ rest)
  pub is_way : IsWay m n nodes way networks rest

-- node x is to be looked at, and its worked network has these sets
pub record IsArrived (m : Algebra) (n : ℕ) (words : List ℕ) (nodes : List TreeNode) (x : ℕ) (worked : List ℕ) (way : List Entered) (networks : List (List ℕ)) : Type 0 where
  pub node : TreeNode
  pub is_there : slice_get nodes x ≡ Some node
  pub network : List ℕ
  pub is_worked : IsWorked m n node.steps network worked
  pub is_network : IsNetwork m n worked
  pub visiting : IsVisiting m n words nodes x network way networks

-- there is a last node on the way
pub record HasLast (nodes : List TreeNode) (way : List Entered) : Type 0 where
  pub at : Entered
  pub before : List Entered
  pub way_is : way ≡ at ∷ before
  pub node : TreeNode
  pub is_there : slice_get nodes at.node ≡ Some node

-- a child of the last node on the way wasn't entered yet
pub record HasNext (nodes : List TreeNode) (way : List Entered) : Type 0 where
  pub at : Entered
  pub before : List Entered
  pub way_is : way ≡ at ∷ before
  pub node : TreeNode
  pub is_there : slice_get nodes at.node ≡ Some node
  pub left : at.next < length (split_parts node)

-- all children of the last node on the way were entered
pub record IsFinished (nodes : List TreeNode) (way : List Entered) : Type 0 where
  pub at : Entered
  pub before : List Entered
  pub way_is : way ≡ at ∷ before
  pub node : TreeNode
  pub is_there : slice_get nodes at.node ≡ Some node
  pub none_left : length (split_parts node) ≤ at.next

-- the nodes are formed, and where networks are closed each node closes its own
pub record IsReady (is_closed : Bool) (n : ℕ) (nodes : List TreeNode) : Type 0 where
  pub formed : AreFormed n nodes
  pub closed : is_closed ≡ true → All (λ node. node.steps ≡ sweep) nodes

-- the network of the first node alone
pub record IsFirstStack (m : Algebra) (n : ℕ) (words : List ℕ) (nodes : List TreeNode) (stack : NetworkStack) : Type 0 where
  pub algebra_is : stack.algebra ≡ m
  pub nodes_are : stack.nodes ≡ n
  pub alone : stack.under ≡ []
  pub ready : IsReady stack.is_closed n nodes
  pub node : TreeNode
  pub is_there : slice_get nodes 0 ≡ Some node
  pub is_worked : IsWorked m n node.steps words stack.top
