-- The work of closing: the sets of all ordered pairs of nodes, and a queue of edges.
use Rattle.std.specs.Prelude.{◌≡◌, ℕ, zero, suc, ◌+◌, ◌*◌, ◌/◌, ◌%◌, ◌^◌, ◌<◌, ◌≤◌, ◌⊎◌, Bool, true, false, List, map, length, slice_index, slice_index_or, slice_set, bit_or, nat_lt, if◌then◌else◌, sum, count_by}
use Rattle.std.specs.List.{range_with_len}
use Rattle.network_words.specs.declared.TheConstants.{MAX_NODES}
use Rattle.compose_fast.specs.Nibbles.{byte}

-- what contracts see of the work: the nodes, the number of planes that the sets are kept in, the set of the pair (i, j)
-- at 256 i + j, at the place of each pair i < j whether its edge is queued, how many more narrowings can be noted, and
-- how many in all
pub record Worklist : Type 0 where
  pub nodes : ℕ
  pub planes : ℕ
  pub sets : List ℕ
  pub queued : List Bool
  pub room : ℕ
  pub notes : ℕ

-- the set whose bytes, of so many, stand 256 places apart, the first one at this place
unfoldable pub set_of_bytes : List ℕ → ℕ → ℕ → ℕ
set_of_bytes bytes zero at = 0
set_of_bytes bytes (suc p) at = bit_or (set_of_bytes bytes p at) (slice_index bytes (256 * p + at) * 2 ^ (8 * p))

-- the sets of all pairs of n nodes, whose bytes lie in rows of so many planes, that of (i, j) at 256 i + j
unfoldable pub sets_in : List ℕ → ℕ → ℕ → List ℕ
sets_in bytes planes n = map (λ e. set_of_bytes bytes planes (256 * (planes * (e / 256)) + e % 256)) (range_with_len 0 (256 * n))

-- the work whose sets lie in such rows
abbrev pub worklist_in : ℕ → ℕ → List ℕ → List Bool → ℕ → ℕ → Worklist
worklist_in n planes bytes queued room notes = record {
  nodes = n;
  planes = planes;
  sets = sets_in bytes planes n;
  queued = queued;
  room = room;
  notes = notes;
}

-- the set of the pair (i, j)
abbrev pub set_of : Worklist → ℕ → ℕ → ℕ
set_of work i j = slice_index work.sets (256 * i + j)

-- the place of the edge between two nodes
abbrev pub edge_place : ℕ → ℕ → ℕ
edge_place i j = if nat_lt i j then 256 * i + j else 256 * j + i

-- the edge between i and j is queued
abbrev pub IsQueued : Worklist → ℕ → ℕ → Type 0
IsQueued work i j = slice_index_or work.queued (edge_place i j) false ≡ true

-- lists of the right lengths
pub record IsSized (work : Worklist) : Type 0 where
  pub some : 0 < work.nodes
  pub bounded : work.nodes ≤ MAX_NODES
  pub sets_length : length work.sets ≡ 256 * work.nodes
  pub queued_length : length work.queued ≡ 256 * work.nodes

-- byte p of each set is at its place of plane p of its row
pub record AreBytesOf (work : Worklist) (bytes : List ℕ) : Type 0 where
  pub most : work.planes ≤ 8
  pub length_is : length bytes ≡ 256 * (work.planes * work.nodes)
  pub each : (p i k : ℕ) → p < work.planes → i < work.nodes → k < work.nodes → slice_index bytes (256 * (work.planes * i + p) + k) ≡ byte (set_of work i k) p

-- the edge from i to j is queued
pub record IsWaiting (work : Worklist) (i j : ℕ) : Type 0 where
  pub order : i < j
  pub below : j < work.nodes
  pub queued : IsQueued work i j

-- no edge from i to a greater node is queued
abbrev pub IsIdle : Worklist → ℕ → Type 0
IsIdle work i = (j : ℕ) → i < j → j < work.nodes → ¬ IsQueued work i j

-- no edge is queued
abbrev pub IsQuiet : Worklist → Type 0
IsQuiet work = (i : ℕ) → i < work.nodes → IsIdle work i

-- each mark in the queue is at the place of an edge
abbrev pub AreEdgeMarks : Worklist → Type 0
AreEdgeMarks work = (e : ℕ) → slice_index_or work.queued e false ≡ true → (e / 256 < e % 256) × (e % 256 < work.nodes)

-- what one edge may narrow, a pair of each of its nodes with every node, can't all be noted
abbrev pub LacksRoom : Worklist → Type 0
LacksRoom work = work.room < 2 * work.nodes

-- what is left to do: the sum of the sets as numbers, twice, and the number of edges that are queued
abbrev pub work_left : Worklist → ℕ
work_left work = 2 * sum work.sets + count_by (λ b. b) work.queued

-- the sets in which those of the pair (i, k), both ways, are x and y
abbrev pub with_pair : List ℕ → ℕ → ℕ → ℕ → ℕ → List ℕ
with_pair sets i k x y = slice_set (slice_set sets (256 * i + k) x) (256 * k + i) y

-- of the edges from the nodes below k, each whose set isn't `full` is queued
abbrev pub IsBegun : Worklist → ℕ → ℕ → Type 0
IsBegun work full k = (i j : ℕ) → i < k → i < j → j < work.nodes → (set_of work i j ≡ full) ⊎ IsQueued work i j

-- what contracts see of room for closing: the nodes of the networks that it is for
pub record Room : Type 0 where
  pub nodes : ℕ
