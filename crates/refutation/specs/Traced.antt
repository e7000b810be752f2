-- Traced trees: each node lists the ruled steps of its network.
use Rattle.std.specs.Prelude.{◌≡◌, ℕ, List}
use Rattle.calculus_table.specs.Algebra.{Algebra}
use Rattle.network_words.specs.Edge.{edge_at}
use Rattle.split_trees.specs.declared.tree.Kind.TheVariants.{Empty}
use Rattle.split_trees.specs.declared.tree.Step.{Step}
use Rattle.split_trees.specs.Tree.{TreeNode, listed, NestedTree, leaf, split, Branches, no_branches, branch, preorder, StandsFor}
use Rattle.split_trees.specs.Refutes.{after_steps, met_at}
use Rattle.stepped_networks.specs.RuledSteps.{AreRuledSteps, AreCutSteps}

-- the trees are one, but for the steps
abbrev mutual
  pub HasShape : NestedTree → NestedTree → Type 0
  HasShape (leaf kind steps) (leaf kind' steps') = kind ≡ kind'
  HasShape (leaf kind steps) (split i j steps' bs) = ⊥
  HasShape (split i j steps bs) (leaf kind steps') = ⊥
  HasShape (split i j steps bs) (split i' j' steps' bs') = (i ≡ i') × (j ≡ j') × HaveShape bs bs'

  pub HaveShape : Branches → Branches → Type 0
  HaveShape no_branches no_branches = Unit {0}
  HaveShape no_branches (branch part child rest) = ⊥
  HaveShape (branch part child rest) no_branches = ⊥
  HaveShape (branch part child rest) (branch part' child' rest') = (part ≡ part') × HasShape child child' × HaveShape rest rest'

-- a split has the ruled steps of its network, and each child has the network after them with the edge's set intersected with the
-- child's part; a leaf is of kind Empty, and has the ruled steps up to the first empty set
abbrev mutual
  pub IsRuled : Algebra → ℕ → List ℕ → NestedTree → Type 0
  IsRuled m n words (leaf kind steps) = (kind ≡ Empty) × ((cut : List Step) × (steps ≡ listed cut) × AreCutSteps m n words cut)
  IsRuled m n words (split i j steps branches) =
      (ruled : List Step) × (steps ≡ listed ruled) × AreRuledSteps m n words ruled
      × EachRuled m n (after_steps m n words ruled) (edge_at n i j) branches

  pub EachRuled : Algebra → ℕ → List ℕ → ℕ → Branches → Type 0
  EachRuled m n closed e no_branches = Unit {0}
  EachRuled m n closed e (branch part child rest) = IsRuled m n (met_at closed e part) child × EachRuled m n closed e rest

-- the second list is the traced tree of the first, over a network
pub record IsTracedOf (m : Algebra) (n : ℕ) (words : List ℕ) (nodes traced : List TreeNode) : Type 0 where
  pub tree : NestedTree
  pub traced_tree : NestedTree
  pub stands : StandsFor n nodes tree
  pub shape : HasShape tree traced_tree
  pub ruled : IsRuled m n words traced_tree
  pub nodes_are : traced ≡ preorder 0 traced_tree
