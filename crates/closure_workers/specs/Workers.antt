-- Workers: each has a part of a pass, a slice of the edges, room for the words that it sees, and a copy of the sets.
use Rattle.std.specs.Prelude.{◌≡◌, ℕ, ◌+◌, ◌<◌, ◌≤◌, ◌⊎◌, [], true, List, length, map, slice_index_or}
use Rattle.std.specs.List.{Contains}
use Rattle.calculus_table.specs.Algebra.{Algebra}
use Rattle.network_words.specs.Edge.{edge_count}
use Rattle.network_words.specs.Network.{IsNetwork, Refines}
use Rattle.network_words.specs.Closure.{IsRangeClosed}
use Rattle.narrow_core.specs.Actor.{fresh}
use Rattle.edge_table.specs.Opening.{OpenState, IsPassOf, algebra_of}
use Rattle.edge_table.specs.Passes.{GoesOn}
use Rattle.slice_copy.specs.Copies.{CopyState, IsOpenCopy, IsSettledCopy}
use Rattle.closure_workers.specs.declared.slices.Slice.{Slice}
use Rattle.closure_workers.specs.declared.worker.Desk.{Desk}
use Rattle.closure_workers.specs.declared.worker.Worker.{Worker}
use Rattle.closure_workers.specs.declared.worker.Turn.{Turn}
use Rattle.closure_workers.specs.declared.worker.Turn.TheVariants.{Closed, Clash, More}
use Rattle.closure_workers.specs.Slices.{HasClash, IsSliceClosed, IsLooking}

-- ---- desks

-- the copy is one of the slice of n nodes
pub record IsCopyOfSlice (n : ℕ) (slice : Slice) (copy : CopyState) : Type 0 where
  pub nodes : copy.slice.nodes ≡ n
  pub from : copy.slice.from ≡ slice.from
  pub to : copy.slice.to ≡ slice.to

-- a desk for a network of n nodes: its slice is one of the edges, and its copy is settled for it if it says so
pub record IsDesk (m : Algebra) (n : ℕ) (desk : Desk) : Type 0 where
  pub few : desk.number < 64
  pub order : desk.slice.from ≤ desk.slice.to
  pub below : desk.slice.to ≤ edge_count n
  pub size : length desk.snap ≡ edge_count n
  pub nodes : desk.copy.slice.nodes ≡ n
  pub settled : desk.is_settled ≡ true → IsSettledCopy m desk.copy × IsCopyOfSlice n desk.slice desk.copy

-- the slices of desks
abbrev pub slices_of : List Desk → List Slice
slices_of desks = map (λ (d : Desk). d.slice) desks

-- and of those of workers
abbrev pub slices_at : List Worker → List Slice
slices_at workers = map (λ (w : Worker). w.desk.slice) workers

-- the edge lies in one of the slices
pub record IsDealt (slices : List Slice) (edge : ℕ) : Type 0 where
  pub slice : Slice
  pub among : Contains slices slice
  pub from : slice.from ≤ edge
  pub to : edge < slice.to

-- each edge with a number below `edges` does
abbrev pub AreDealt : List Slice → ℕ → Type 0
AreDealt slices edges = (e : ℕ) → e < edges → IsDealt slices e

-- ---- a worker

-- a worker of the table: its pass is one of it, and its desk is one for its nodes
pub record IsWorker (table : OpenState) (w : Worker) : Type 0 where
  pub pass : IsPassOf table w.pass
  pub desk : IsDesk (algebra_of table.opening) table.opening.nodes w.desk

-- the snapshot is what the pass has seen
pub record IsReadyToWork (table : OpenState) (w : Worker) : Type 0 where
  pub worker : IsWorker table w
  pub snap : w.desk.snap ≡ w.pass.actor.seen
  pub network : IsNetwork (algebra_of table.opening) table.opening.nodes w.desk.snap

-- the worker works: the snapshot is what the pass has seen, and the copy has the sets of some network
pub record IsAtWork (table : OpenState) (w : Worker) : Type 0 where
  pub looking : IsLooking table w.pass w.desk.snap
  pub size : length w.desk.snap ≡ edge_count table.opening.nodes
  pub copy : IsOpenCopy (algebra_of table.opening) w.desk.copy
  pub of_slice : IsCopyOfSlice table.opening.nodes w.desk.slice w.desk.copy

-- the worker has gone on: its pass has seen as much of each edge or less, and has stated nothing; its number and slice stay
pub record GoesOnAs (old new : Worker) : Type 0 where
  pub goes_on : GoesOn old.pass new.pass
  pub number : new.desk.number ≡ old.desk.number
  pub slice : new.desk.slice ≡ old.desk.slice

-- and is at work
pub record WorksOn (table : OpenState) (old new : Worker) : Type 0 where
  pub at_work : IsAtWork table new
  pub as_before : GoesOnAs old new

-- what a turn came to
pub record ComesTo (table : OpenState) (w : Worker) (turn : Turn) : Type 0 where
  pub closed : turn ≡ Closed → IsRangeClosed (algebra_of table.opening) table.opening.nodes w.desk.snap w.desk.slice.from w.desk.slice.to
  pub clash : turn ≡ Clash → HasClash table.opening.nodes w.desk.snap
  pub settled : turn ≡ Closed ⊎ turn ≡ More → IsSettledCopy (algebra_of table.opening) w.desk.copy

-- the copy is settled for the slice if the desk says so
abbrev pub IsKept : OpenState → Worker → Type 0
IsKept table w = w.desk.is_settled ≡ true → IsSettledCopy (algebra_of table.opening) w.desk.copy

-- the worker has worked: its slice is closed in what its pass has seen, which began with a load of each word
pub record HasWorked (table : OpenState) (old new : Worker) : Type 0 where
  pub worker : IsWorker table new
  pub as_before : GoesOnAs old new
  pub loads : old.pass.loads + edge_count table.opening.nodes ≤ new.pass.loads
  pub snap : new.desk.snap ≡ new.pass.actor.seen
  pub closed : IsSliceClosed (algebra_of table.opening) table.opening.nodes new.desk.snap new.desk.slice

-- ---- workers together

-- a worker that has just begun: its pass has one part of the weight, has stated nothing and has seen these words
pub record IsFreshWorker (table : OpenState) (seen : List ℕ) (w : Worker) : Type 0 where
  pub worker : IsWorker table w
  pub actor : w.pass.actor ≡ fresh 1 seen

-- each worker has worked
pub record HaveWorked (table : OpenState) (old new : List Worker) : Type 0 where
  pub count : length new ≡ length old
  pub each : (k : ℕ) (w : Worker) → k < length old → HasWorked table (slice_index_or old k w) (slice_index_or new k w)

-- the desk of a worker who has worked: its slice is closed in what it has seen, which lies between these words
pub record IsSeenDesk (table : OpenState) (low high : List ℕ) (desk : Desk) : Type 0 where
  pub is_desk : IsDesk (algebra_of table.opening) table.opening.nodes desk
  pub closed : IsSliceClosed (algebra_of table.opening) table.opening.nodes desk.snap desk.slice
  pub within : Refines desk.snap high
  pub contains : Refines low desk.snap

-- a worker at the end of a round that began with these words: its pass has one part of the weight and has stated nothing, it has
-- loaded each word, and its slice is closed in what it has seen
pub record HasEnded (table : OpenState) (words : List ℕ) (w : Worker) : Type 0 where
  pub pass : IsPassOf table w.pass
  pub weight : w.pass.actor.weight ≡ 1
  pub facts : w.pass.actor.mine ≡ []
  pub loads : edge_count table.opening.nodes ≤ w.pass.loads
  pub snap : w.desk.snap ≡ w.pass.actor.seen
  pub desk : IsDesk (algebra_of table.opening) table.opening.nodes w.desk
  pub closed : IsSliceClosed (algebra_of table.opening) table.opening.nodes w.desk.snap w.desk.slice
  pub within : Refines w.desk.snap words
