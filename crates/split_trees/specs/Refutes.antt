-- Trees of splits that refute a network: on every way through the splits the network of the leaf has an empty set.
use Rattle.std.specs.Prelude.{◌≡◌, ℕ, List, [], ◌∷◌, slice_index, slice_set, bit_and, bit_or, Contains}
use Rattle.calculus_table.specs.Rel.{IsWithin}
use Rattle.calculus_table.specs.Algebra.{Algebra}
use Rattle.calculus_table.specs.Composition.{composition}
use Rattle.network_words.specs.Edge.{edge_at}
use Rattle.network_words.specs.Network.{relation_between, narrowed_at}
use Rattle.network_words.specs.Closure.{IsClosure}
use Rattle.split_trees.specs.declared.tree.Kind.TheVariants.{Empty}
use Rattle.split_trees.specs.declared.tree.Step.{Step}
use Rattle.split_trees.specs.Tree.{TreeNode, NodeSteps, sweep, listed, NestedTree, leaf, split, Branches, no_branches, branch, parts_of, StandsFor}

-- ---- working a network

-- the network after a step: the set of (i, k) is intersected with the composition of those of (i, j) and (j, k)
abbrev pub after_step : Algebra → ℕ → List ℕ → Step → List ℕ
after_step m n words step =
    narrowed_at m n words step.i step.k (composition m (relation_between m n words step.i step.j) (relation_between m n words step.j step.k))

-- the network after steps, the first one first
abbrev pub after_steps : Algebra → ℕ → List ℕ → List Step → List ℕ
after_steps m n words [] = words
after_steps m n words (step ∷ steps) = after_steps m n (after_step m n words step) steps

-- the network as a node works it: its closure, or the network after the steps
abbrev pub IsWorked : Algebra → ℕ → NodeSteps → List ℕ → List ℕ → Type 0
IsWorked m n sweep words worked = IsClosure m n words worked
IsWorked m n (listed steps) words worked = worked ≡ after_steps m n words steps

-- ---- splits

-- the network in which the set of an edge is intersected with a part
abbrev pub met_at : List ℕ → ℕ → ℕ → List ℕ
met_at words e part = slice_set words e (bit_and (slice_index words e) part)

-- the union of the parts
abbrev pub union_of : List ℕ → ℕ
union_of [] = 0
union_of (part ∷ parts) = bit_or part (union_of parts)

-- each base relation of the edge is in some part
abbrev pub IsCovered : List ℕ → ℕ → List ℕ → Type 0
IsCovered words e parts = IsWithin (slice_index words e) (union_of parts)

-- ---- refuting

-- a leaf of kind Empty refutes where the worked network has an empty set; a split does where its parts cover the edge's set in
-- the worked network, and each child refutes that network with the edge's set intersected with the child's part
abbrev mutual
  pub Refutes : Algebra → ℕ → List ℕ → NestedTree → Type 0
  Refutes m n words (leaf kind steps) =
      (kind ≡ Empty) × ((worked : List ℕ) × IsWorked m n steps words worked × Contains worked 0)
  Refutes m n words (split i j steps branches) =
      (worked : List ℕ) × IsWorked m n steps words worked × IsCovered worked (edge_at n i j) (parts_of branches)
      × EachRefutes m n worked (edge_at n i j) branches

  pub EachRefutes : Algebra → ℕ → List ℕ → ℕ → Branches → Type 0
  EachRefutes m n worked e no_branches = Unit {0}
  EachRefutes m n worked e (branch part child rest) = Refutes m n (met_at worked e part) child × EachRefutes m n worked e rest

-- the list stands for a tree that refutes the network
pub record IsRefutation (m : Algebra) (n : ℕ) (words : List ℕ) (nodes : List TreeNode) : Type 0 where
  pub tree : NestedTree
  pub stands : StandsFor n nodes tree
  pub refutes : Refutes m n words tree
