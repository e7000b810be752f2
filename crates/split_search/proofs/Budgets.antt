-- A search that goes on, with a smaller budget.
use Rattle.std.proofs.Common.{◌≡◌, ℕ, ◌≤◌, List}
use Rattle.std.specs.Prelude.{Option, Some, None, MatchOption, is_some, false}
use Rattle.split_search.specs.declared.TheConstants.{MAX_BUDGET}
use Rattle.split_search.specs.Way.{Held}
use Rattle.split_search.specs.Searches.{Task, IsTask, IsGoing}

pub task-within : (t : Task) (budget : ℕ) → budget ≤ MAX_BUDGET → IsTask t → IsTask (record t { budget = budget })
task-within t budget few is = record {
  network = is.network;
  nodes_are = is.nodes_are;
  size_is = is.size_is;
  small = is.small;
  bases = is.bases;
  few = few;
}

pub going-within : (t : Task) (budget : ℕ) (held : Held) (top : List ℕ) → held.count ≤ budget → IsGoing t held top →
    IsGoing (record t { budget = budget }) held top
going-within t budget held top few g = record { between = g.between; bound = record { few = few; room = g.bound.room } }

-- what holds where a search goes on
pub going-here : {A : Type 0} (o : Option A) (P : Type 0) (Q : A → Type 0) → is_some o ≡ false → MatchOption o P Q → P
going-here None P Q e h = h
going-here (Some x) P Q e h = absurd (cc)

pub going-state : {A : Type 0} (o : Option A) (P : Type 0) (Q : A → Type 0) → is_some o ≡ false → P → MatchOption o P Q
going-state None P Q e p = p
going-state (Some x) P Q e p = absurd (cc)
