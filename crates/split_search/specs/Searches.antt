-- What a search is of, and what it keeps between its steps.
use Rattle.std.specs.Prelude.{◌≡◌, ℕ, ◌+◌, ◌-◌, ◌*◌, ◌≤◌, List, [], ◌∷◌, ◌++◌, length, replicate}
use Rattle.std.specs.List.{range_with_len}
use Rattle.calculus_table.specs.Algebra.{Algebra}
use Rattle.calculus_table.specs.Calculus.{EachBase}
use Rattle.network_words.specs.Network.{Network, IsNetwork}
use Rattle.tract_classes.specs.Class.{HasBase}
use Rattle.split_trees.specs.declared.tree.Kind.TheVariants.{Later}
use Rattle.split_trees.specs.Tree.{TreeNode, sweep, leaf_node}
use Rattle.split_search.specs.declared.TheConstants.{MAX_BUDGET}
use Rattle.split_search.specs.declared.searching.Search.{Search}
use Rattle.split_search.specs.declared.searching.Stop.{Stop}
use Rattle.split_search.specs.declared.searching.Stop.TheVariants.{Found, Spent}
use Rattle.split_search.specs.Ruled.{End, at_scenario, at_budget}
use Rattle.split_search.specs.Candidates.{GuidedLevels}
use Rattle.split_search.specs.Way.{SplitState, Held, IsVisiting, IsBetween, IsEnded}

-- ---- what a search is of

-- the calculus and the nodes of its path, the number of base relations, the network, the class and the budget
pub record Task : Type 0 where
  pub algebra : Algebra
  pub nodes : ℕ
  pub size : ℕ
  pub net : Network
  pub class : List ℕ
  pub budget : ℕ

-- the network is one of the calculus, of which the class has each base relation
pub record IsTask (t : Task) : Type 0 where
  pub network : IsNetwork t.algebra t.nodes t.net.words
  pub nodes_are : t.net.nodes ≡ t.nodes
  pub size_is : t.size ≡ t.algebra.size
  pub small : t.size ≤ 64
  pub bases : EachBase t.algebra (HasBase t.class)
  pub few : t.budget ≤ MAX_BUDGET

abbrev pub task_with : Network → ℕ → GuidedLevels → Task
task_with net budget path = record {
  algebra = path.algebra;
  nodes = path.nodes;
  size = path.size;
  net = net;
  class = path.class;
  budget = budget;
}

abbrev pub task_of : Search → Task
task_of s = task_with s.net s.budget s.path

-- what a search holds; and that with a split that was taken from its open ones
abbrev pub held_of : Search → Held
held_of s = record { open_splits = s.open_splits.items; below = s.path.below; nodes = s.nodes.items; count = s.count }

abbrev pub held_with : Search → SplitState → Held
held_with s split = record {
  open_splits = s.open_splits.items ++ split ∷ [];
  below = s.path.below;
  nodes = s.nodes.items;
  count = s.count;
}

-- ---- bounds

-- the number of children that weren't made yet
abbrev pub children_left : List SplitState → ℕ
children_left [] = 0
children_left (s ∷ splits) = length s.parts - length s.children + children_left splits

-- no more splits than the budget, of which each has 64 parts at most: there are so many nodes and children that will
-- be nodes
pub record IsWithinBudget (t : Task) (held : Held) (nodes : ℕ) : Type 0 where
  pub few : held.count ≤ t.budget
  pub room : nodes + children_left held.open_splits ≤ 64 * held.count + 1

-- the nodes that may still be made, and the splits that are open: each step makes less of this
abbrev pub work_left : Search → ℕ
work_left s = 2 * (64 * s.budget + 1 - length s.nodes.items) + length s.open_splits.items

-- ---- between steps

-- a child is visited, whose node isn't made yet
pub record IsAtChild (t : Task) (held : Held) (top : List ℕ) : Type 0 where
  pub visiting : IsVisiting t.algebra t.nodes t.class t.net.words held top
  pub bound : IsWithinBudget t held (length held.nodes + 1)

-- the search goes on
pub record IsGoing (t : Task) (held : Held) (top : List ℕ) : Type 0 where
  pub between : IsBetween t.algebra t.nodes t.class t.net.words held top
  pub bound : IsWithinBudget t held (length held.nodes)

-- the search came to an end
pub record HasStopped (t : Task) (end : End) (held : Held) : Type 0 where
  pub ended : IsEnded t.algebra t.nodes t.class t.net.words end held
  pub bound : IsWithinBudget t held (length held.nodes)
  pub spent : end ≡ at_budget → held.count ≡ t.budget

-- at a scenario, or with a budget that is spent
abbrev pub end_of : Stop → End
end_of (Found relations) = at_scenario relations
end_of Spent = at_budget

-- ---- children that are left for later

-- each child that wasn't made is a leaf now, and these are numbered on from the nodes
pub record AreLeft (split : SplitState) (nodes : List TreeNode) (whole : SplitState) (more : List TreeNode) :
    Type 0 where
  pub split_is : whole ≡ record split {
    children = split.children ++ range_with_len (length nodes) (length split.parts - length split.children);
  }
  pub nodes_are : more ≡ nodes ++ replicate (length split.parts - length split.children) (leaf_node Later sweep)
