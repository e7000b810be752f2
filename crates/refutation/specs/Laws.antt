-- What holds of trees that refute a network.
use Rattle.std.specs.Prelude.{◌≡◌, ◌≢◌, ℕ, ◌⊎◌, List, length, map, All}
use Rattle.calculus_table.specs.Algebra.{Algebra}
use Rattle.calculus_table.specs.Calculus.{IsCalculus}
use Rattle.network_words.specs.Network.{IsNetwork}
use Rattle.network_words.specs.Scenario.{IsScenario}
use Rattle.network_words.specs.Closure.{IsClosure}
use Rattle.split_trees.specs.Tree.{TreeNode, sweep, bare, HasBareLeaves}
use Rattle.refutation.specs.declared.fault.TreeFault.{TreeFault}
use Rattle.refutation.specs.declared.fault.TreeFault.TheVariants.{Memory}
use Rattle.split_trees.specs.declared.tree.Step.{Step}
use Rattle.split_trees.specs.Refutes.{after_steps, IsRefutation}
use Rattle.stepped_networks.specs.RuledSteps.{AreRuledSteps}
use Rattle.refutation.specs.Traced.{IsTracedOf}
use Rattle.refutation.specs.TreeFault.{IsFaultOf}

-- a network that a tree refutes has no scenario
abbrev pub RefutedHasNoScenario : Type 0
RefutedHasNoScenario =
    (m : Algebra) (n : ℕ) (words : List ℕ) (nodes : List TreeNode) (relations : List ℕ) → IsCalculus m → IsNetwork m n words →
    IsRefutation m n words nodes → ¬ IsScenario m n words relations

-- a list of nodes that refutes has no fault but that memory runs out
abbrev pub RefutationHasNoFault : Type 0
RefutationHasNoFault =
    (m : Algebra) (n : ℕ) (words : List ℕ) (nodes : List TreeNode) (fault : TreeFault) → IsRefutation m n words nodes →
    fault ≢ Memory → ¬ IsFaultOf m n words nodes fault

-- and another list has one such fault at most
abbrev pub TreeFaultIsOne : Type 0
TreeFaultIsOne =
    (m : Algebra) (n : ℕ) (words : List ℕ) (nodes : List TreeNode) (f g : TreeFault) → f ≢ Memory → g ≢ Memory →
    IsFaultOf m n words nodes f → IsFaultOf m n words nodes g → f ≡ g

-- a fault of a list of nodes, but that memory runs out
pub record Fault (m : Algebra) (n : ℕ) (words : List ℕ) (nodes : List TreeNode) : Type 0 where
  pub fault : TreeFault
  pub real : fault ≢ Memory
  pub is_fault : IsFaultOf m n words nodes fault

-- and each list of nodes that doesn't refute has one
abbrev pub RefutationOrFault : Type 0
RefutationOrFault =
    (m : Algebra) (n : ℕ) (words : List ℕ) (nodes : List TreeNode) → IsCalculus m → IsNetwork m n words →
    IsRefutation m n words nodes ⊎ Fault m n words nodes

-- the nodes of a search, each of which sweeps and holds nothing beside as a leaf, have bare leaves
abbrev pub SweptLeavesAreBare : Type 0
SweptLeavesAreBare = (nodes : List TreeNode) → All (λ node. node.steps ≡ sweep) nodes → map bare nodes ≡ nodes → HasBareLeaves nodes

-- ---- ruled steps

-- a network has ruled steps
abbrev pub RuledStepsExist : Type 0
RuledStepsExist = (m : Algebra) (n : ℕ) (words : List ℕ) → (steps : List Step) × AreRuledSteps m n words steps

-- and no others
abbrev pub RuledStepsAreOne : Type 0
RuledStepsAreOne =
    (m : Algebra) (n : ℕ) (words : List ℕ) (xs ys : List Step) → AreRuledSteps m n words xs → AreRuledSteps m n words ys → xs ≡ ys

-- they lead to the closure
abbrev pub RuledStepsLeadToClosure : Type 0
RuledStepsLeadToClosure =
    (m : Algebra) (n : ℕ) (words : List ℕ) (steps : List Step) → IsCalculus m → IsNetwork m n words → AreRuledSteps m n words steps →
    IsClosure m n words (after_steps m n words steps)

-- ---- traced trees

-- the traced tree of a tree that refutes a network refutes it too
abbrev pub TracedTreeRefutes : Type 0
TracedTreeRefutes =
    (m : Algebra) (n : ℕ) (words : List ℕ) (nodes traced : List TreeNode) → IsCalculus m → IsNetwork m n words →
    IsRefutation m n words nodes → IsTracedOf m n words nodes traced → IsRefutation m n words traced

-- none of its nodes sweeps
abbrev pub TracedTreeHasNoSweep : Type 0
TracedTreeHasNoSweep =
    (m : Algebra) (n : ℕ) (words : List ℕ) (nodes traced : List TreeNode) → IsCalculus m → IsTracedOf m n words nodes traced →
    All (λ node. node.steps ≢ sweep) traced

-- its leaves are bare
abbrev pub TracedTreeHasBareLeaves : Type 0
TracedTreeHasBareLeaves =
    (m : Algebra) (n : ℕ) (words : List ℕ) (nodes traced : List TreeNode) → IsCalculus m → IsTracedOf m n words nodes traced →
    HasBareLeaves traced

-- and it has as many nodes
abbrev pub TracedTreeHasAsManyNodes : Type 0
TracedTreeHasAsManyNodes =
    (m : Algebra) (n : ℕ) (words : List ℕ) (nodes traced : List TreeNode) → IsTracedOf m n words nodes traced → length traced ≡ length nodes
