-- A copy of a network's sets, on which the edges of a slice are closed.
use Rattle.std.specs.Prelude.{◌≡◌, ℕ, ◌*◌, ◌<◌, ◌≤◌, List}
use Rattle.calculus_table.specs.Algebra.{Algebra}
use Rattle.calculus_table.specs.Calculus.{IsCalculus}
use Rattle.network_words.specs.Edge.{edge_at}
use Rattle.network_words.specs.Network.{IsNetwork}
use Rattle.compose_fast.specs.Planes.{AreBaseTables}
use Rattle.edge_propagation.specs.Worklist.{Worklist, IsQuiet}
use Rattle.edge_propagation.specs.Propagation.{AreConverses, IsInStep, IsAmong, IsSettled, IsStored, IsPlanes}
use Rattle.edge_propagation.specs.declared.span.Span.{Span}

-- a slice of the edges of n nodes: those with a number from `from` up to but without `to`
pub record Slice : Type 0 where
  pub nodes : ℕ
  pub from : ℕ
  pub to : ℕ

-- what contracts see of a copy: the slice, the rows in which its edges lie, the sets and the queue, and the tables of the
-- calculus
pub record CopyState : Type 0 where
  pub slice : Slice
  pub rows : Span
  pub work : Worklist
  pub bases : List ℕ

-- the edges of a slice lie in the rows
pub record AreRowsOf (n from to : ℕ) (rows : Span) : Type 0 where
  pub each : (i k : ℕ) → i < k → k < n → from ≤ edge_at n i k → edge_at n i k < to → IsAmong rows i
  pub order : rows.first ≤ rows.end
  pub below : rows.end ≤ n

-- a copy that has the sets of a network
pub record IsCopyOf (m : Algebra) (words : List ℕ) (copy : CopyState) : Type 0 where
  pub calculus : IsCalculus m
  pub planes : IsPlanes copy.work.planes
  pub enough : m.size ≤ 8 * copy.work.planes
  pub tables : AreBaseTables m copy.work.planes copy.bases
  pub network : IsNetwork m copy.slice.nodes words
  pub in_step : IsInStep m copy.slice.nodes words copy.work
  pub rows : AreRowsOf copy.slice.nodes copy.slice.from copy.slice.to copy.rows

-- a copy that has the sets of some network
pub record IsOpenCopy (m : Algebra) (copy : CopyState) : Type 0 where
  pub calculus : IsCalculus m
  pub planes : IsPlanes copy.work.planes
  pub enough : m.size ≤ 8 * copy.work.planes
  pub tables : AreBaseTables m copy.work.planes copy.bases
  pub sets : AreConverses m copy.work
  pub nodes : copy.work.nodes ≡ copy.slice.nodes
  pub rows : AreRowsOf copy.slice.nodes copy.slice.from copy.slice.to copy.rows

-- and of which each triple of the slice is closed unless one of its two source edges is queued
pub record IsSettledCopy (m : Algebra) (copy : CopyState) : Type 0 where
  pub is_open : IsOpenCopy m copy
  pub settled : IsSettled m copy.rows copy.work

-- or each triple of the slice's rows before k
pub record IsSweptCopy (m : Algebra) (copy : CopyState) (k : ℕ) : Type 0 where
  pub is_open : IsOpenCopy m copy
  pub settled : IsSettled m (record { first = copy.rows.first; end = k }) copy.work

-- the copy has taken over sets of other edges, and stays what it was
pub record TakesOver (m : Algebra) (old new : CopyState) : Type 0 where
  pub is_open : IsOpenCopy m new
  pub settled : IsSettledCopy m old → IsSettledCopy m new
  pub swept : (k : ℕ) → IsSweptCopy m old k → IsSweptCopy m new k
  pub slice : new.slice ≡ old.slice
  pub rows : new.rows ≡ old.rows

-- no edge is queued in the copy
abbrev pub IsIdleCopy : CopyState → Type 0
IsIdleCopy copy = IsQuiet copy.work

-- the words of all edges are the copy's sets
abbrev pub AreWordsOf : List ℕ → CopyState → Type 0
AreWordsOf words copy = IsStored copy.slice.nodes words copy.work copy.slice.nodes
