-- Trees of children that are known before a search comes to them.
use Rattle.std.specs.Prelude.{◌≡◌, ℕ, ◌+◌, ◌*◌, ◌≤◌, List, length, map, count_by, slice_index, slice_set}
use Rattle.split_trees.specs.Tree.{TreeNode, is_split}
use Rattle.split_search.specs.declared.verdict.Verdict.{Verdict}
use Rattle.split_search.specs.declared.verdict.Verdict.TheVariants.{Yes, No, Budget}
use Rattle.split_search.specs.declared.answered.Answered.{Answered}
use Rattle.split_search.specs.Ruled.{IsVerdict}
use Rattle.split_search.specs.Way.{SplitState}
use Rattle.split_search.specs.Searches.{Task}
use Rattle.split_search.specs.Verdicts.{nodes_of}

-- the node where the nodes before it are so many more
abbrev pub moved : ℕ → TreeNode → TreeNode
moved offset node = record node { children = map (λ c. c + offset) node.children }

-- the verdict is that on the network with some budget
pub record IsAnswered (t : Task) (a : Answered) : Type 0 where
  pub nodes_are : a.net.nodes ≡ t.nodes
  pub budget : ℕ
  pub ruled : IsVerdict t.algebra t.nodes t.class budget a.net.words a.verdict

-- so many splits are left for the tree of the verdict: no more than it has, and just as many where the budget was spent
abbrev pub KeepsLeft : ℕ → ℕ → Verdict → Type 0
KeepsLeft budget count (Yes relations nodes) = count + count_by is_split nodes ≤ budget
KeepsLeft budget count (No nodes) = count + count_by is_split nodes ≤ budget
KeepsLeft budget count (Budget nodes) = count + count_by is_split nodes ≡ budget

-- the tree of the verdict has room below a search of so many splits
pub record HasRoomFor (budget count : ℕ) (v : Verdict) : Type 0 where
  pub left : KeepsLeft budget count v
  pub few : length (nodes_of v) ≤ 64 * count_by is_split (nodes_of v) + 1

-- the verdict on the network of the next child of a split, whose tree has room
pub record IsGraft (t : Task) (top : List ℕ) (split : SplitState) (count : ℕ) (v : Verdict) : Type 0 where
  pub budget : ℕ
  pub ruled : IsVerdict t.algebra t.nodes t.class budget
      (slice_set top split.edge (slice_index split.parts (length split.children))) v
  pub room : HasRoomFor t.budget count v
