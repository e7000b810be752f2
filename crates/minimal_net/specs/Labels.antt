-- Labels: what the ruled tree says of a network in which the set of an edge is met with one base relation.
use Rattle.std.specs.Prelude.{◌≡◌, ℕ, ◌+◌, ◌^◌, ◌<◌, ◌≤◌, List, [], slice_index, count_by}
use Rattle.calculus_table.specs.Algebra.{Algebra}
use Rattle.network_words.specs.Closure.{IsClosure}
use Rattle.network_words.specs.Scenario.{IsScenario}
use Rattle.split_trees.specs.Tree.{TreeNode, is_split}
use Rattle.split_trees.specs.Refutes.{met_at, IsRefutation}
use Rattle.split_search.specs.declared.verdict.Verdict.{Verdict}
use Rattle.split_search.specs.declared.verdict.Verdict.TheVariants.{Yes, No}
use Rattle.split_search.specs.declared.verdict.Verdict.TheVariants as verdict
use Rattle.split_search.specs.Ruled.{IsVerdict, product}
use Rattle.minimal_net.specs.declared.label.Label.{Label}
use Rattle.minimal_net.specs.declared.label.Label.TheVariants.{Held, Refuted, Budget}

-- the network in which the set of an edge is met with one base relation
abbrev pub set_to : List ℕ → ℕ → ℕ → List ℕ
set_to words e base = met_at words e (2 ^ base)

-- the label by a verdict: held with the scenario of a yes, refuted with the tree of a no
abbrev pub label_of : Verdict → Label
label_of (Yes relations nodes) = Held relations
label_of (No nodes) = Refuted nodes
label_of (verdict.Budget nodes) = Budget nodes

-- the label of an edge and a base relation is by the ruled tree of the network with the edge's set met with it
pub record IsLabel (m : Algebra) (n : ℕ) (class : List ℕ) (budget : ℕ) (words : List ℕ) (e base : ℕ) (label : Label)
    : Type 0 where
  pub verdict : Verdict
  pub is_verdict : IsVerdict m n class budget (set_to words e base) verdict
  pub is : label ≡ label_of verdict

-- the list is a scenario of the network that has the base relation at the edge
pub record HasAt (m : Algebra) (n : ℕ) (words : List ℕ) (e base : ℕ) (relations : List ℕ) : Type 0 where
  pub scenario : IsScenario m n words relations
  pub here : slice_index relations e ≡ base

-- no scenario of the network has it there
abbrev pub IsInNone : Algebra → ℕ → List ℕ → ℕ → ℕ → Type 0
IsInNone m n words e base = (relations : List ℕ) → ¬ HasAt m n words e base relations

-- what a label says is so: a held base relation is in a scenario of the network there, a refuted one in none, by a
-- tree that refutes; and the budget is spent only where the product of the sizes of the closed sets is more than one
-- above it
abbrev pub IsTrueOf : Algebra → ℕ → List ℕ → ℕ → ℕ → ℕ → Label → Type 0
IsTrueOf m n words e base budget (Held relations) = HasAt m n words e base relations
IsTrueOf m n words e base budget (Refuted nodes) =
    IsRefutation m n (set_to words e base) nodes × IsInNone m n words e base
IsTrueOf m n words e base budget (Budget nodes) =
    (closure : List ℕ) → IsClosure m n (set_to words e base) closure → budget + 1 < product closure

-- the nodes of a label's tree; a held one has none
abbrev pub nodes_of : Label → List TreeNode
nodes_of (Held relations) = []
nodes_of (Refuted nodes) = nodes
nodes_of (Budget nodes) = nodes

-- the tree has as many splits as the budget at most, and just as many where it was spent
abbrev pub KeepsBudget : ℕ → Label → Type 0
KeepsBudget budget (Held relations) = Unit {0}
KeepsBudget budget (Refuted nodes) = count_by is_split nodes ≤ budget
KeepsBudget budget (Budget nodes) = count_by is_split nodes ≡ budget
