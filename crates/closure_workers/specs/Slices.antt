-- A slice of the edges, those of a range of numbers, and what a pass does with it.
use Rattle.std.specs.Prelude.{◌≡◌, ℕ, ◌<◌, ◌≤◌, ◌⊎◌, Bool, true, false, List, length, slice_index, sum}
use Rattle.calculus_table.specs.Algebra.{Algebra}
use Rattle.network_words.specs.Edge.{edge_at}
use Rattle.network_words.specs.Closure.{IsPairClosed, IsRangeClosed}
use Rattle.edge_table.specs.Opening.{OpenState, PassState, IsPassOf}
use Rattle.edge_table.specs.Passes.{GoesOn}
use Rattle.closure_workers.specs.declared.slices.Slice.{Slice}

-- ---- the pass and its snapshot

-- the pass is one of the table, and the words of the snapshot are what it has seen
pub record IsLooking (table : OpenState) (now : PassState) (words : List ℕ) : Type 0 where
  pub pass : IsPassOf table now
  pub snap : words ≡ now.actor.seen

-- the pass has then seen as much of each edge or less, and states nothing; the words of the snapshot are what it has seen
pub record LooksOn (table : OpenState) (old new : PassState) (words : List ℕ) : Type 0 where
  pub looking : IsLooking table new words
  pub goes_on : GoesOn old new

-- ---- the slice

-- an edge has an empty set while there are three or more nodes, so that every set of the closure is empty
pub record HasClash (n : ℕ) (words : List ℕ) : Type 0 where
  pub many : 3 ≤ n
  pub edge : ℕ
  pub below : edge < length words
  pub empty : slice_index words edge ≡ 0

-- the sets of the slice are closed, or some set is empty
abbrev pub IsSliceClosed : Algebra → ℕ → List ℕ → Slice → Type 0
IsSliceClosed m n words slice = IsRangeClosed m n words slice.from slice.to ⊎ HasClash n words

-- the edge from i to k is closed if it lies in the slice
abbrev pub IsListedClosed : Algebra → ℕ → Slice → ℕ → ℕ → List ℕ → Type 0
IsListedClosed m n slice i k words = slice.from ≤ edge_at n i k → edge_at n i k < slice.to → IsPairClosed m n words i k

-- the pass has looked on, and tells whether it has then seen less of some edge; where it hasn't, it has seen what it had, and P
-- holds of that
pub record Looks (table : OpenState) (P : List ℕ → Type 0) (old new : PassState) (words : List ℕ) (less : Bool) : Type 0 where
  pub looks_on : LooksOn table old new words
  pub smaller : less ≡ true → sum new.actor.seen < sum old.actor.seen
  pub done : less ≡ false → (new.actor.seen ≡ old.actor.seen) × P new.actor.seen
