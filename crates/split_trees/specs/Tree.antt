-- Trees of splits: nested, and flat, as the list of their nodes in preorder.
use Rattle.std.specs.Prelude.{◌≡◌, ◌≢◌, ℕ, ◌+◌, ◌^◌, ◌<◌, Bool, true, false, if◌then◌else◌, List, [], ◌∷◌, ◌++◌, length, map, All}
use Rattle.network_words.specs.Edge.{IsProperTriple}
use Rattle.split_trees.specs.declared.tree.Kind.{Kind}
use Rattle.split_trees.specs.declared.tree.Kind.TheVariants.{Empty, Found, Open, Later, Split}
use Rattle.split_trees.specs.declared.tree.Step.{Step}

-- ---- nodes

-- how the network of a node is worked: by closing it, or by these steps one after another
pub data NodeSteps : Type 0 where
  sweep : NodeSteps
  listed : List Step → NodeSteps

-- what contracts see of a node: its kind, the nodes of the edge that it splits, the parts, the numbers of the children, and
-- the steps
pub record TreeNode : Type 0 where
  pub kind : Kind
  pub i : ℕ
  pub j : ℕ
  pub parts : List ℕ
  pub children : List ℕ
  pub steps : NodeSteps

-- the node is a split
abbrev pub is_split_kind : Kind → Bool
is_split_kind Empty = false
is_split_kind Found = false
is_split_kind Open = false
is_split_kind Later = false
is_split_kind Split = true

abbrev pub is_split : TreeNode → Bool
is_split node = is_split_kind node.kind

-- the number of children that a node lists
abbrev pub arity : TreeNode → ℕ
arity node = if is_split node then length node.children else 0

-- the parts into which a node splits an edge: a leaf has none, whatever it holds
abbrev pub split_parts : TreeNode → List ℕ
split_parts node = if is_split node then node.parts else []

-- a leaf that holds nothing beside its kind and its steps
abbrev pub leaf_node : Kind → NodeSteps → TreeNode
leaf_node kind steps = record { kind = kind; i = 0; j = 0; parts = []; children = []; steps = steps }

-- the node without what a leaf holds beside its kind and its steps
abbrev pub bare : TreeNode → TreeNode
bare node = if is_split node then node else leaf_node node.kind node.steps

-- a leaf holds nothing beside its kind and its steps, and says sweep where it isn't of kind Empty
abbrev pub IsBareLeaf : Kind → TreeNode → Type 0
IsBareLeaf Empty node = node ≡ leaf_node Empty node.steps
IsBareLeaf Found node = node ≡ leaf_node Found sweep
IsBareLeaf Open node = node ≡ leaf_node Open sweep
IsBareLeaf Later node = node ≡ leaf_node Later sweep
IsBareLeaf Split node = Unit {0}

abbrev pub HasBareLeaves : List TreeNode → Type 0
HasBareLeaves nodes = All (λ node. IsBareLeaf node.kind node) nodes

-- the steps are of three different nodes each
abbrev pub AreSteps : ℕ → NodeSteps → Type 0
AreSteps n sweep = Unit {0}
AreSteps n (listed steps) = All (λ step. IsProperTriple n step.i step.j step.k) steps

-- there are fewer than 2^32 steps
abbrev pub AreFewSteps : NodeSteps → Type 0
AreFewSteps sweep = Unit {0}
AreFewSteps (listed steps) = length steps < 2 ^ 32

-- ---- nested trees

-- a leaf of a kind, or a split of the edge from i to j into parts, with a tree for each part
mutual
  pub data NestedTree : Type 0 where
    leaf : Kind → NodeSteps → NestedTree
    split : ℕ → ℕ → NodeSteps → Branches → NestedTree

  pub data Branches : Type 0 where
    no_branches : Branches
    branch : ℕ → NestedTree → Branches → Branches

-- the number of nodes
abbrev mutual
  pub size : NestedTree → ℕ
  size (leaf kind steps) = 1
  size (split i j steps branches) = size_of_all branches + 1

  pub size_of_all : Branches → ℕ
  size_of_all no_branches = 0
  size_of_all (branch part child rest) = size child + size_of_all rest

-- the parts of a split
abbrev pub parts_of : Branches → List ℕ
parts_of no_branches = []
parts_of (branch part child rest) = part ∷ parts_of rest

-- the numbers of the children, where the first has this number and each next one comes after the nodes of the one before
abbrev pub numbers_from : ℕ → Branches → List ℕ
numbers_from first no_branches = []
numbers_from first (branch part child rest) = first ∷ numbers_from (first + size child) rest

-- the nodes in preorder, of which the first has this number
abbrev mutual
  pub preorder : ℕ → NestedTree → List TreeNode
  preorder number (leaf kind steps) = leaf_node kind steps ∷ []
  preorder number (split i j steps branches) =
      record { kind = Split; i = i; j = j; parts = parts_of branches; children = numbers_from (number + 1) branches; steps = steps }
      ∷ preorder_of_all (number + 1) branches

  pub preorder_of_all : ℕ → Branches → List TreeNode
  preorder_of_all number no_branches = []
  preorder_of_all number (branch part child rest) = preorder number child ++ preorder_of_all (number + size child) rest

-- leaves are no splits, splits are of edges of n nodes and have a part at least, and steps are of different nodes
abbrev mutual
  pub IsTree : ℕ → NestedTree → Type 0
  IsTree n (leaf kind steps) = (kind ≢ Split) × AreSteps n steps
  IsTree n (split i j steps branches) = (i < j) × (j < n) × (0 < length (parts_of branches)) × AreSteps n steps × AreTrees n branches

  pub AreTrees : ℕ → Branches → Type 0
  AreTrees n no_branches = Unit {0}
  AreTrees n (branch part child rest) = IsTree n child × AreTrees n rest

-- the list stands for the tree: it has the tree's nodes in preorder, whatever its leaves hold beside their kinds and steps
pub record StandsFor (n : ℕ) (nodes : List TreeNode) (tree : NestedTree) : Type 0 where
  pub nodes_are : map bare nodes ≡ preorder 0 tree
  pub is_tree : IsTree n tree
