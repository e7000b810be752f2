-- Trees of splits, cut to a budget of splits.
use Rattle.std.specs.Prelude.{◌≡◌, ℕ, zero, suc, ◌-◌, ◌≤◌, ◌⊎◌, List, nat_le, if◌then◌else◌}
use Rattle.calculus_table.specs.Algebra.{Algebra}
use Rattle.network_words.specs.Closure.{IsClosure}
use Rattle.split_trees.specs.declared.tree.Kind.TheVariants.{Open, Later}
use Rattle.split_trees.specs.Tree.{sweep, NestedTree, leaf, split, Branches, no_branches, branch}
use Rattle.split_search.specs.Ruled.{IsDone, at_scenario, at_budget, Ends, splits}

-- the children as leaves that weren't looked at
abbrev pub all_later : Branches → Branches
all_later no_branches = no_branches
all_later (branch part child rest) = branch part (leaf Later sweep) (all_later rest)

-- the tree with at most so many splits: in preorder, the split after these becomes an Open leaf, and every child of a
-- split before it that follows it becomes a Later leaf
abbrev mutual
  pub cut : NestedTree → ℕ → NestedTree
  cut (leaf kind steps) budget = leaf kind steps
  cut (split i j steps _) zero = leaf Open sweep
  cut (split i j steps branches) (suc budget) = split i j steps (cut_all branches budget)

  pub cut_all : Branches → ℕ → Branches
  cut_all no_branches budget = no_branches
  cut_all (branch part child rest) budget =
      if nat_le (splits child) budget then branch part child (cut_all rest (budget - splits child))
      else branch part (cut child budget) (all_later rest)

-- the tree is what a search of a closed network makes with so many splits at most: it is done, or ends at a scenario,
-- or ends undecided with just as many
abbrev pub IsRuledIn : Algebra → ℕ → List ℕ → ℕ → List ℕ → NestedTree → Type 0
IsRuledIn m n class budget closed tree =
    (IsDone m n class closed tree × (splits tree ≤ budget))
    ⊎ ((relations : List ℕ) × Ends m n class (at_scenario relations) closed tree × (splits tree ≤ budget))
    ⊎ (Ends m n class at_budget closed tree × (splits tree ≡ budget))

-- the ruled tree of a network with a budget of splits
abbrev pub IsRuledTree : Algebra → ℕ → List ℕ → ℕ → List ℕ → NestedTree → Type 0
IsRuledTree m n class budget words tree = (closed : List ℕ) × IsClosure m n words closed × IsRuledIn m n class budget
    closed tree
