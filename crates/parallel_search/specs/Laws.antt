-- What holds of trees that are cut.
use Rattle.std.specs.Prelude.{◌≡◌, ℕ, ◌≤◌, List}
use Rattle.calculus_table.specs.Algebra.{Algebra}
use Rattle.split_trees.specs.Tree.{NestedTree}
use Rattle.split_search.specs.Ruled.{splits}
use Rattle.parallel_search.specs.Cut.{cut, IsRuledTree}

-- a ruled tree that is cut is the ruled tree with the smaller budget
abbrev pub CutIsRuled : Type 0
CutIsRuled =
    (m : Algebra) (n : ℕ) (class : List ℕ) (budget : ℕ) (words : List ℕ) (tree : NestedTree) (less : ℕ) →
    less ≤ budget →
    IsRuledTree m n class budget words tree → IsRuledTree m n class less words (cut tree less)

-- a tree of no more splits stays
abbrev pub FewStay : Type 0
FewStay = (tree : NestedTree) (budget : ℕ) → splits tree ≤ budget → cut tree budget ≡ tree
