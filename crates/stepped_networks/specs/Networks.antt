-- Worked networks, one above another, and what was replaced on the way up.
use Rattle.std.specs.Prelude.{◌≡◌, ℕ, ◌<◌, Bool, List, [], ◌∷◌, slice_set, All}
use Rattle.calculus_table.specs.Algebra.{Algebra}
use Rattle.network_words.specs.Edge.{edge_count}
use Rattle.stepped_networks.specs.declared.stepped.Replaced.{Replaced}
use Rattle.split_trees.specs.Tree.{NodeSteps}
use Rattle.split_trees.specs.Refutes.{IsWorked}

-- what contracts see of networks above one another: the calculus, the nodes, whether each network is closed, the sets of the
-- top, and those of the networks under it, the nearest first
pub record NetworkStack : Type 0 where
  pub algebra : Algebra
  pub nodes : ℕ
  pub is_closed : Bool
  pub top : List ℕ
  pub under : List (List ℕ)

-- the sets before some were replaced, the last replaced first
abbrev pub restored : List ℕ → List Replaced → List ℕ
restored words [] = words
restored words (r ∷ rs) = slice_set (restored words rs) r.edge r.old

-- the networks under one, by what each replaced, the nearest first
abbrev pub networks_under : List ℕ → List (List Replaced) → List (List ℕ)
networks_under words [] = []
networks_under words (rs ∷ levels) = restored words rs ∷ networks_under (restored words rs) levels

-- what was replaced between two networks of n nodes
pub record IsTrail (n : ℕ) (before after : List ℕ) (trail : List Replaced) : Type 0 where
  pub edges : All (λ r. r.edge < edge_count n) trail
  pub restored_is : restored after trail ≡ before

-- whatever the trail led from, it still does
abbrev pub KeepsTrail : ℕ → List ℕ → List Replaced → List ℕ → List Replaced → Type 0
KeepsTrail n old old_trail new new_trail = (before : List ℕ) → IsTrail n before old old_trail → IsTrail n before new new_trail

-- one network alone, worked from a given one
pub record IsStackOf (m : Algebra) (n : ℕ) (words : List ℕ) (steps : NodeSteps) (stack : NetworkStack) : Type 0 where
  pub algebra_is : stack.algebra ≡ m
  pub nodes_are : stack.nodes ≡ n
  pub worked : IsWorked m n steps words stack.top
  pub alone : stack.under ≡ []
