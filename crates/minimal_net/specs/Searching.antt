-- The search of one label, without its tree: what it is of, and what it holds between its steps. The ruled tree is there from the
-- beginning, and the search goes through it: what holds is what is known of the part that lies ahead.
use Rattle.std.specs.Prelude.{◌≡◌, ℕ, ◌+◌, ◌-◌, ◌*◌, ◌<◌, ◌≤◌, ◌⊎◌, Bool, true, List, [], ◌∷◌, ◌++◌, length, drop}
use Rattle.std.specs.Prelude.{slice_index, slice_index_or, All, Contains, Result, Ok, Vec}
use Rattle.std.specs.Global.{Global}
use Rattle.calculus_table.specs.declared.Memory.{Memory}
use Rattle.calculus_table.specs.Algebra.{Algebra}
use Rattle.calculus_table.specs.Calculus.{IsCalculus, EachBase}
use Rattle.network_words.specs.Edge.{edge_count}
use Rattle.network_words.specs.Network.{IsNetwork}
use Rattle.network_words.specs.Closure.{IsClosed}
use Rattle.tract_classes.specs.Class.{IsClass, HasBase, IsClosedClass}
use Rattle.tract_classes.specs.Straight.{IsStraight}
use Rattle.split_trees.specs.Tree.{NestedTree, Branches, parts_of}
use Rattle.split_search.specs.Ruled.{IsUndecided, IsRuledSplit, End, at_scenario, at_budget, splits, splits_of_all}
use Rattle.split_search.specs.Ruled.{IsDone, AreDone, Ends, EndsAmong}
use Rattle.minimal_net.specs.declared.outcome.Outcome.{Outcome}
use Rattle.minimal_net.specs.declared.outcome.Outcome.TheVariants.{Held, Refuted, Open}
use Rattle.minimal_net.specs.declared.edge_labels.EdgeLabels.{EdgeLabels}
use Rattle.minimal_net.specs.declared.labeller.Labeller.{Labeller}
use Rattle.minimal_net.specs.declared.open_split.OpenSplit.{OpenSplit}
use Rattle.minimal_net.specs.NetworkLabels.{IsOutcome, AreEdgeLabels, labels_at}
use Rattle.split_search.specs.Candidates.{GuidedLevels}
use Rattle.split_search.specs.Straight.{several_count}

-- the split goes on to its next part
pub record IsNextPart (old new : OpenSplit) (part : ℕ) : Type 0 where
  pub left : old.next < length old.parts.items
  pub part_is : part ≡ slice_index old.parts.items old.next
  pub split_is : new ≡ record old { next = old.next + 1 }

-- ---- what a search is of

-- the first level of a path, by the levels below its top and the top
abbrev pub first_level : List (List ℕ) → List ℕ → List ℕ
first_level [] top = top
first_level (first ∷ below) top = first

-- the calculus, the nodes, the number of base relations, the class, the network on the first level, the budget, and whether the
-- class is closed and straight
pub record Task : Type 0 where
  pub algebra : Algebra
  pub nodes : ℕ
  pub size : ℕ
  pub class : List ℕ
  pub words : List ℕ
  pub budget : ℕ
  pub is_straight : Bool

abbrev pub task_on : GuidedLevels → ℕ → Bool → Task
task_on path budget is_straight = record {
  algebra = path.algebra;
  nodes = path.nodes;
  size = path.size;
  class = path.class;
  words = first_level path.below path.top;
  budget = budget;
  is_straight = is_straight;
}

abbrev pub task_of : Labeller → Task
task_of s = task_on s.path s.budget s.is_straight

-- the network is a closed one of the calculus, of which the class has each base relation
pub record IsTask (t : Task) : Type 0 where
  pub calculus : IsCalculus t.algebra
  pub network : IsNetwork t.algebra t.nodes t.words
  pub closed : IsClosed t.algebra t.nodes t.words
  pub is_class : IsClass t.class
  pub bases : EachBase t.algebra (HasBase t.class)
  pub size_is : t.size ≡ t.algebra.size
  pub straight : t.is_straight ≡ true → IsClosedClass t.algebra t.class × IsStraight t.algebra t.class

-- the task over a closed network
abbrev pub task_over : Algebra → ℕ → List ℕ → List ℕ → ℕ → Bool → Task
task_over m n class words budget is_straight = record {
  algebra = m;
  nodes = n;
  size = m.size;
  class = class;
  words = words;
  budget = budget;
  is_straight = is_straight;
}

-- the outcome of a base relation at an edge, and the labels of an edge
abbrev pub IsOutcomeAt : Task → ℕ → ℕ → Outcome → Type 0
IsOutcomeAt t e base outcome = IsOutcome t.algebra t.nodes t.class t.budget t.words e base outcome

abbrev pub AreLabelsAt : Task → ℕ → EdgeLabels → Type 0
AreLabelsAt t e labels = AreEdgeLabels t.algebra t.nodes t.class t.budget t.words e (slice_index t.words e) labels

-- the labels of the edges `first`, `first + step` and so on
abbrev pub AreLabelsOfShare : Task → ℕ → ℕ → List EdgeLabels → Type 0
AreLabelsOfShare t first step labels = (k : ℕ) → first + k * step < edge_count t.nodes →
    (k < length labels) × AreLabelsAt t (first + k * step) (labels_at labels k)

-- each share that was made has those of its edges
abbrev pub AreShares : Task → List (Result (Vec EdgeLabels Global) Memory) → Type 0
AreShares t shares =
    (k : ℕ) (d : Result (Vec EdgeLabels Global) Memory) (share : Vec EdgeLabels Global) → k < length shares →
    slice_index_or shares k d ≡ Ok share → AreLabelsOfShare t k (length shares) share.items

-- no search is under way
pub record IsIdle (s : Labeller) : Type 0 where
  pub first : s.path.below ≡ []
  pub none : s.open_splits.items ≡ []
  pub count : s.count ≡ 0

-- ---- what lies ahead

-- the outcome at an end, and where an end stands after so many splits
abbrev pub outcome_at : End → Outcome
outcome_at (at_scenario relations) = Held
outcome_at at_budget = Open

abbrev pub FitsEnd : End → ℕ → ℕ → Type 0
FitsEnd (at_scenario relations) count budget = count ≤ budget
FitsEnd at_budget count budget = count ≡ budget

pub record IsEnd (o : Outcome) (budget : ℕ) (end : End) (count : ℕ) : Type 0 where
  pub outcome : o ≡ outcome_at end
  pub fits : FitsEnd end count budget

-- an open split and its closed network
pub record Frame : Type 0 where
  pub state : OpenSplit
  pub words : List ℕ

-- the split is the one that is ruled for its network, and its first children were looked at
pub record IsFrame (m : Algebra) (n : ℕ) (class : List ℕ) (f : Frame) : Type 0 where
  pub network : IsNetwork m n f.words
  pub undecided : IsUndecided f.words
  pub ruled : IsRuledSplit m class f.words f.state.edge f.state.parts.items
  pub next : f.state.next ≤ length f.state.parts.items

abbrev pub AreFrames : Algebra → ℕ → List ℕ → List Frame → Type 0
AreFrames m n class [] = Unit {0}
AreFrames m n class (f ∷ way) = IsFrame m n class f × AreFrames m n class way

-- the open splits of a way, whose last is its first; and its levels, from the first one on
abbrev pub splits_of : List Frame → List OpenSplit
splits_of [] = []
splits_of (f ∷ way) = splits_of way ++ f.state ∷ []

abbrev pub levels_of : List ℕ → List Frame → List (List ℕ)
levels_of words [] = words ∷ []
levels_of words (f ∷ way) = levels_of words way ++ f.words ∷ []

-- what is ahead leads to the outcome, after so many splits: the trees of the children that weren't looked at are done, and then
-- the splits below go on; or they end
abbrev pub LeadsTo : Algebra → ℕ → List ℕ → ℕ → Outcome → List Frame → ℕ → Type 0
LeadsTo m n class budget o [] count = (o ≡ Refuted) × (count ≤ budget)
LeadsTo m n class budget o (f ∷ way) count =
    (branches : Branches) × (parts_of branches ≡ drop f.state.next f.state.parts.items)
    × ((AreDone m n class f.words f.state.edge branches × LeadsTo m n class budget o way (count + splits_of_all branches))
    ⊎ ((end : End) × EndsAmong m n class end f.words f.state.edge branches × IsEnd o budget end (count + splits_of_all branches)))

-- the tree of a closed network above the way leads to the outcome
abbrev pub TreeLeadsTo : Algebra → ℕ → List ℕ → ℕ → Outcome → List Frame → ℕ → List ℕ → NestedTree → Type 0
TreeLeadsTo m n class budget o way count top tree =
    (IsDone m n class top tree × LeadsTo m n class budget o way (count + splits tree))
    ⊎ ((end : End) × Ends m n class end top tree × IsEnd o budget end (count + splits tree))

-- ---- between steps

-- between two children
pub record IsBetween (t : Task) (o : Outcome) (open_splits : List OpenSplit) (below : List (List ℕ)) (top : List ℕ) (count : ℕ)
    : Type 0 where
  pub way : List Frame
  pub frames : AreFrames t.algebra t.nodes t.class way
  pub splits_are : open_splits ≡ splits_of way
  pub levels_are : below ++ top ∷ [] ≡ levels_of t.words way
  pub leads : LeadsTo t.algebra t.nodes t.class t.budget o way count

-- at a child
pub record IsAtChild (t : Task) (o : Outcome) (open_splits : List OpenSplit) (below : List (List ℕ)) (top : List ℕ) (count : ℕ)
    : Type 0 where
  pub way : List Frame
  pub frames : AreFrames t.algebra t.nodes t.class way
  pub splits_are : open_splits ≡ splits_of way
  pub levels_are : below ≡ levels_of t.words way
  pub network : IsNetwork t.algebra t.nodes top
  pub closed : IsClosed t.algebra t.nodes top
  pub tree : NestedTree
  pub leads : TreeLeadsTo t.algebra t.nodes t.class t.budget o way count top tree

abbrev pub SearchesChild : Labeller → Outcome → Type 0
SearchesChild s o = IsAtChild (task_of s) o s.open_splits.items s.path.below s.path.top s.count

abbrev pub SearchesOn : Labeller → Outcome → Type 0
SearchesOn s o = IsBetween (task_of s) o s.open_splits.items s.path.below s.path.top s.count

-- with a split that was taken from the open ones
abbrev pub SearchesWith : Labeller → OpenSplit → Outcome → Type 0
SearchesWith s split o = IsBetween (task_of s) o (s.open_splits.items ++ split ∷ []) s.path.below s.path.top s.count

-- ---- the early end

-- each set of the top is a member of a straight class that is closed, and the budget has room for its edges with several
pub record CanEndEarly (s : Labeller) : Type 0 where
  pub members : All (Contains s.path.class) s.path.top
  pub straight : s.is_straight ≡ true
  pub room : s.count + several_count s.path.top ≤ s.budget

-- ---- why a search ends

-- the children that weren't looked at, and the splits
abbrev pub children_left : List OpenSplit → ℕ
children_left [] = 0
children_left (s ∷ open_splits) = length s.parts.items - s.next + 1 + children_left open_splits

abbrev pub work_left : Labeller → ℕ
work_left s = 66 * (s.budget - s.count) + children_left s.open_splits.items
