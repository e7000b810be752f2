-- Rounds of workers on one table, and what comes of them.
use Rattle.std.specs.Prelude.{◌≡◌, ℕ, ◌+◌, ◌*◌, ◌<◌, ◌≤◌, ◌⊎◌, List, length, Option, Some, None}
use Rattle.std.specs.List.{All}
use Rattle.calculus_table.specs.Algebra.{Algebra}
use Rattle.network_words.specs.declared.fact.Fact.{Fact}
use Rattle.network_words.specs.Edge.{edge_count}
use Rattle.network_words.specs.Network.{Network, IsNetwork, Refines}
use Rattle.network_words.specs.Closure.{IsClosed}
use Rattle.narrow_core.specs.Bound.{IsWithinFact}
use Rattle.edge_table.specs.Opening.{OpenState, IsPassOf, algebra_of, opening_over}
use Rattle.edge_table.specs.declared.rule.Opening.{Opening}
use Rattle.edge_table.specs.Opening.{ClosedState}
use Rattle.closure_workers.specs.declared.rounds.Workers.{Workers}
use Rattle.closure_workers.specs.declared.worker.Desk.{Desk}
use Rattle.closure_workers.specs.Slices.{HasClash, IsSliceClosed}
use Rattle.closure_workers.specs.Workers.{IsDesk, IsSeenDesk, AreDealt, slices_of}

-- ---- workers while none of them works

-- the pass has the whole weight of the table, more than there are desks; the desks are for its nodes, and each edge lies in a
-- slice
pub record AreWorkersOf (table : OpenState) (w : Workers) : Type 0 where
  pub pass : IsPassOf table w.home
  pub whole : w.home.actor.weight ≡ table.opening.weight
  pub some : 0 < length w.desks.items
  pub enough : length w.desks.items < table.opening.weight
  pub few : length w.desks.items ≤ 64
  pub desks : All (IsDesk (algebra_of table.opening) table.opening.nodes) w.desks.items
  pub dealt : AreDealt (slices_of w.desks.items) (edge_count table.opening.nodes)

-- the slice of the desk is closed in what its worker has seen
abbrev pub HasClosed : OpenState → Desk → Type 0
HasClosed table desk = IsSliceClosed (algebra_of table.opening) table.opening.nodes desk.snap desk.slice

-- workers who have worked: each slice is closed in what its worker has seen
pub record HaveAllWorked (table : OpenState) (w : Workers) : Type 0 where
  pub workers : AreWorkersOf table w
  pub closed : All (HasClosed table) w.desks.items

-- after a round: the pass has seen less or as much, and has stated no more; each slice is closed in what its worker has seen, and
-- each worker has loaded each word
pub record HaveWorkedOn (table : OpenState) (old new : Workers) : Type 0 where
  pub workers : AreWorkersOf table new
  pub count : length new.desks.items ≡ length old.desks.items
  pub facts : new.home.actor.mine ≡ old.home.actor.mine
  pub loads : old.home.loads + length old.desks.items * edge_count table.opening.nodes ≤ new.home.loads
  pub within : Refines new.home.actor.seen old.home.actor.seen
  pub seen : All (IsSeenDesk table new.home.actor.seen old.home.actor.seen) new.desks.items

-- after the last one: the pass has stated no more and has seen less or as much, and what it has seen are these words, which are
-- closed unless some set of them is empty
pub record HaveClosed (table : OpenState) (old : Workers) (words : List ℕ) (new : Workers) : Type 0 where
  pub workers : AreWorkersOf table new
  pub facts : new.home.actor.mine ≡ old.home.actor.mine
  pub loads : old.home.loads ≤ new.home.loads
  pub within : Refines new.home.actor.seen old.home.actor.seen
  pub words_are : words ≡ new.home.actor.seen
  pub network : IsNetwork (algebra_of table.opening) table.opening.nodes words
  pub closed : ¬ HasClash table.opening.nodes words → IsClosed (algebra_of table.opening) table.opening.nodes words

-- ---- what comes of it

-- the greatest closed network within words and within each of the facts, whose order plays no part
pub record IsClosureWithin (m : Algebra) (n : ℕ) (words : List ℕ) (facts : List Fact) (closure : List ℕ) : Type 0 where
  pub network : IsNetwork m n closure
  pub closed : IsClosed m n closure
  pub within : Refines closure words
  pub within_facts : All (IsWithinFact m n closure) facts
  pub greatest :
      (other : List ℕ) → IsNetwork m n other → IsClosed m n other → Refines other words → All (IsWithinFact m n other) facts → Refines other closure

-- the table with this opening was closed, by passes that made so many loads or more; the words that it was closed with are these,
-- which are all empty if some set of the table is
pub record IsClosing (opening : Opening) (loads : ℕ) (words : List ℕ) (closed : ClosedState) : Type 0 where
  pub opening_is : closed.opening ≡ opening
  pub whole : closed.pass.actor.weight ≡ opening.weight
  pub loads_are : loads ≤ closed.pass.loads
  pub words_are : (closed.words ≡ words) ⊎ HasClash opening.nodes closed.words

-- a network that so many workers closed: several closed a table of its words, and each of them loaded each word
abbrev pub IsClosedBy : ℕ → Algebra → Network → List ℕ → Option ClosedState → Type 0
IsClosedBy count m net words None = count < 2
IsClosedBy count m net words (Some closed) = IsClosing (opening_over net (count + 1) m) (count * edge_count net.nodes) words closed
