-- The minimal network (Montanari 1974), and the network that labels leave.
use Rattle.std.specs.Prelude.{◌≡◌, ℕ, ◌<◌, ◌↔◌, List, length, slice_index}
use Rattle.calculus_table.specs.Rel.{Has}
use Rattle.calculus_table.specs.Algebra.{Algebra}
use Rattle.network_words.specs.Edge.{edge_count}
use Rattle.network_words.specs.Closure.{IsClosure}
use Rattle.split_trees.specs.Tree.{TreeNode}
use Rattle.minimal_net.specs.declared.label.Label.TheVariants.{Refuted, Budget}
use Rattle.minimal_net.specs.Labels.{IsLabel, HasAt}

-- a base relation is in the set of an edge just where some scenario of the network has it there
pub record IsMinimal (m : Algebra) (n : ℕ) (words minimal : List ℕ) : Type 0 where
  pub length_is : length minimal ≡ edge_count n
  pub each : (e base : ℕ) → e < edge_count n →
      Has (slice_index minimal e) base ↔ ((relations : List ℕ) × HasAt m n words e base relations)

-- the base relation is refuted at the edge; or its label is open
abbrev pub IsRefutedAt : Algebra → ℕ → List ℕ → ℕ → List ℕ → ℕ → ℕ → Type 0
IsRefutedAt m n class budget words e base =
    (nodes : List TreeNode) × IsLabel m n class budget words e base (Refuted nodes)

abbrev pub IsOpenAt : Algebra → ℕ → List ℕ → ℕ → List ℕ → ℕ → ℕ → Type 0
IsOpenAt m n class budget words e base =
    (nodes : List TreeNode) × IsLabel m n class budget words e base (Budget nodes)

-- the closure of a network without the base relations that are refuted
pub record IsLabelled (m : Algebra) (n : ℕ) (class : List ℕ) (budget : ℕ) (words written : List ℕ) : Type 0 where
  pub closure : List ℕ
  pub is_closure : IsClosure m n words closure
  pub length_is : length written ≡ length words
  pub each : (e base : ℕ) → e < edge_count n → Has (slice_index written e) base
      ↔ (Has (slice_index closure e) base × (¬ IsRefutedAt m n class budget words e base))

-- no base relation of the closure has an open label
abbrev pub HasNoOpen : Algebra → ℕ → List ℕ → ℕ → List ℕ → List ℕ → Type 0
HasNoOpen m n class budget words closure =
    (e base : ℕ) → e < edge_count n → Has (slice_index closure e) base → ¬ IsOpenAt m n class budget words e base
