-- Searches that are left and gone on with.
use Rattle.std.specs.Prelude.{◌≡◌, ℕ, List, [], MatchOption, is_some, false}
use Rattle.calculus_table.specs.Algebra.{Algebra}
use Rattle.network_words.specs.Network.{Network, IsNetwork}
use Rattle.split_search.specs.declared.ahead.LaterChild.{LaterChild}
use Rattle.split_search.specs.declared.walking.Walk.{Walk}
use Rattle.split_search.specs.declared.verdict.Verdict.{Verdict}
use Rattle.split_search.specs.Ruled.{IsVerdict}
use Rattle.split_search.specs.Searches.{Task, IsTask, task_of, held_of, end_of, IsGoing, HasStopped}
use Rattle.split_search.specs.Verdicts.{IsTrueOf, KeepsBudget, AreSearched, nodes_of}

-- the search of a network over a calculus, by a class and with a budget
abbrev pub task_for : Algebra → Network → List ℕ → ℕ → Task
task_for m net class budget = record {
  algebra = m;
  nodes = net.nodes;
  size = m.size;
  net = net;
  class = class;
  budget = budget;
}

-- the search goes on, or has stopped
pub record IsWalk (w : Walk) : Type 0 where
  pub task : IsTask (task_of w.search)
  pub state : MatchOption w.stop
      (IsGoing (task_of w.search) (held_of w.search) w.search.path.top)
      (λ stop. HasStopped (task_of w.search) (end_of stop) (held_of w.search))

-- no step is left: it has stopped, or no split is open
pub record IsOver (w : Walk) : Type 0 where
  pub walk : IsWalk w
  pub none : is_some w.stop ≡ false → w.search.open_splits.items ≡ []

-- all that is told of a verdict on the network of a search
pub record IsToldOf (t : Task) (v : Verdict) : Type 0 where
  pub ruled : IsVerdict t.algebra t.nodes t.class t.budget t.net.words v
  pub is_true : IsTrueOf t.algebra t.nodes t.net.words t.budget v
  pub splits : KeepsBudget t.budget v
  pub nodes : AreSearched t.budget (nodes_of v)

-- a child's network is one of the calculus, of so many nodes
pub record IsLaterChild (m : Algebra) (n : ℕ) (child : LaterChild) : Type 0 where
  pub network : IsNetwork m child.net.nodes child.net.words
  pub nodes_are : child.net.nodes ≡ n
