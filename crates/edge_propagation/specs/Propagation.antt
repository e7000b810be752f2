-- What propagation does to the sets of pairs on the way to the closure of a network.
use Rattle.std.specs.Prelude.{◌≡◌, ◌≢◌, ℕ, ◌*◌, ◌<◌, ◌≤◌, ◌⊎◌, List, slice_index, bit_and}
use Rattle.calculus_table.specs.Rel.{IsWithin}
use Rattle.calculus_table.specs.Algebra.{Algebra}
use Rattle.calculus_table.specs.Composition.{full_of, composition, converse}
use Rattle.calculus_table.specs.Calculus.{IsCalculus}
use Rattle.network_words.specs.Edge.{edge_at, IsProperPair, IsProperTriple, IsSamePair}
use Rattle.network_words.specs.Network.{IsNetwork, relation_between}
use Rattle.network_words.specs.Closure.{IsClosed}
use Rattle.edge_propagation.specs.Worklist.{Worklist, set_of, IsQueued, work_left}
use Rattle.edge_propagation.specs.declared.span.Span.{Span}

-- sets of base relations, of which those of a pair are each other's converses
pub record AreConverses (m : Algebra) (work : Worklist) : Type 0 where
  pub within : (i j : ℕ) → IsProperPair work.nodes i j → IsWithin (set_of work i j) (full_of m)
  pub converse : (i j : ℕ) → IsProperPair work.nodes i j → set_of work j i ≡ converse m (set_of work i j)

-- what every step of propagation starts from
pub record IsReady (m : Algebra) (planes : ℕ) (work : Worklist) : Type 0 where
  pub calculus : IsCalculus m
  pub few : planes ≤ 8
  pub enough : m.size ≤ 8 * planes
  pub planes_are : work.planes ≡ planes
  pub sets : AreConverses m work

-- the sets are those of the network's pairs
pub record IsInStep (m : Algebra) (n : ℕ) (words : List ℕ) (work : Worklist) : Type 0 where
  pub nodes : work.nodes ≡ n
  pub sets : (i j : ℕ) → IsProperPair n i j → set_of work i j ≡ relation_between m n words i j

-- the sets of a pair, both ways, are those of the network
abbrev pub IsPairLoaded : Algebra → ℕ → List ℕ → Worklist → ℕ → ℕ → Type 0
IsPairLoaded m n words work i j = (set_of work i j ≡ relation_between m n words i j) × (set_of work j i ≡ relation_between m n words j i)

-- so far for the pairs of the nodes below k with greater ones
abbrev pub IsLoaded : Algebra → ℕ → List ℕ → Worklist → ℕ → Type 0
IsLoaded m n words work k = (i j : ℕ) → i < k → i < j → j < n → IsPairLoaded m n words work i j

-- the words of the edges from the nodes below k are the sets of their pairs
abbrev pub IsStored : ℕ → List ℕ → Worklist → ℕ → Type 0
IsStored n words work k = (i j : ℕ) → i < k → i < j → j < n → slice_index words (edge_at n i j) ≡ set_of work i j

-- each set of the network is within that of its pair
abbrev pub IsInside : Algebra → List ℕ → Worklist → Type 0
IsInside m words work = (i j : ℕ) → IsProperPair work.nodes i j → IsWithin (relation_between m work.nodes words i j) (set_of work i j)

-- sets only became smaller, no closed network within them was lost, each edge whose set changed is queued, and no more is left
-- to do than before
pub record IsStep (m : Algebra) (old new : Worklist) : Type 0 where
  pub nodes : new.nodes ≡ old.nodes
  pub planes : new.planes ≡ old.planes
  pub sets : AreConverses m new
  pub within : (i j : ℕ) → IsProperPair old.nodes i j → IsWithin (set_of new i j) (set_of old i j)
  pub kept : (words : List ℕ) → IsNetwork m old.nodes words → IsClosed m old.nodes words → IsInside m words old → IsInside m words new
  pub stays : (i j : ℕ) → IsQueued old i j → IsQueued new i j
  pub same : (i j : ℕ) → IsProperPair old.nodes i j → ¬ IsQueued new i j → set_of new i j ≡ set_of old i j
  pub less : work_left new ≤ work_left old

-- sets only became smaller, and no closed network within them was lost
pub record IsRefinement (m : Algebra) (old new : Worklist) : Type 0 where
  pub nodes : new.nodes ≡ old.nodes
  pub planes : new.planes ≡ old.planes
  pub sets : AreConverses m new
  pub within : (i j : ℕ) → IsProperPair old.nodes i j → IsWithin (set_of new i j) (set_of old i j)
  pub kept : (words : List ℕ) → IsNetwork m old.nodes words → IsClosed m old.nodes words → IsInside m words old → IsInside m words new

-- no set became empty: those that are empty were so before
abbrev pub EmptiesNone : Worklist → Worklist → Type 0
EmptiesNone old new = (i j : ℕ) → IsProperPair old.nodes i j → set_of new i j ≡ 0 → set_of old i j ≡ 0

-- the set of some pair is empty
pub record HasEmpty (work : Worklist) : Type 0 where
  pub first : ℕ
  pub second : ℕ
  pub proper : IsProperPair work.nodes first second
  pub empty : set_of work first second ≡ 0

-- the node k is in the range
pub record IsAmong (span : Span) (k : ℕ) : Type 0 where
  pub from : span.first ≤ k
  pub below : k < span.end

-- the pair (i, k) belongs to a range of rows: the lesser of the two nodes is in it
pub record IsCharged (rows : Span) (i k : ℕ) : Type 0 where
  pub first_from : rows.first ≤ i
  pub second_from : rows.first ≤ k
  pub lesser_below : (i < rows.end) ⊎ (k < rows.end)

-- all of n nodes
abbrev pub all_nodes : ℕ → Span
all_nodes n = record { first = 0; end = n }

-- the set of (i, k) is within the composition along j
abbrev pub IsClosedAlong : Algebra → Worklist → ℕ → ℕ → ℕ → Type 0
IsClosedAlong m work i j k = IsWithin (set_of work i k) (composition m (set_of work i j) (set_of work j k))

-- every triple is closed
abbrev pub AreClosed : Algebra → Worklist → Type 0
AreClosed m work = (i j k : ℕ) → IsProperTriple work.nodes i j k → IsClosedAlong m work i j k

-- every triple whose outer pair belongs to the rows is closed
abbrev pub AreRowsClosed : Algebra → Span → Worklist → Type 0
AreRowsClosed m rows work = (i j k : ℕ) → IsProperTriple work.nodes i j k → IsCharged rows i k → IsClosedAlong m work i j k

-- unless one of its two source edges is queued, the triple is closed
abbrev pub IsSettledAt : Algebra → Worklist → ℕ → ℕ → ℕ → Type 0
IsSettledAt m work i j k = ¬ IsQueued work i j → ¬ IsQueued work j k → IsClosedAlong m work i j k

-- and so is each triple whose outer pair is of i and a greater node
abbrev pub IsRowSettled : Algebra → Worklist → ℕ → Type 0
IsRowSettled m work i = (j k : ℕ) → i < k → IsProperTriple work.nodes i j k → IsSettledAt m work i j k

-- and so is that of each node of a range
abbrev pub AreRowsSettled : Algebra → Worklist → Span → Type 0
AreRowsSettled m work rows = (i : ℕ) → IsAmong rows i → IsRowSettled m work i

-- and so is each triple whose outer pair belongs to the rows
abbrev pub IsSettled : Algebra → Span → Worklist → Type 0
IsSettled m rows work = (i j k : ℕ) → IsProperTriple work.nodes i j k → IsCharged rows i k → IsSettledAt m work i j k

-- and so is each of these of which the edge between i and j is no source
abbrev pub IsSettledBut : Algebra → Span → Worklist → ℕ → ℕ → Type 0
IsSettledBut m rows work i j = (a b c : ℕ) → IsProperTriple work.nodes a b c → IsCharged rows a c → ¬ IsSamePair a b i j → ¬ IsSamePair b c i j → IsSettledAt m work a b c

-- sets only became smaller, and each edge whose set changed is queued
pub record IsMet (m : Algebra) (old new : Worklist) : Type 0 where
  pub nodes : new.nodes ≡ old.nodes
  pub planes : new.planes ≡ old.planes
  pub sets : AreConverses m new
  pub within : (i j : ℕ) → IsProperPair old.nodes i j → IsWithin (set_of new i j) (set_of old i j)
  pub stays : (i j : ℕ) → IsQueued old i j → IsQueued new i j
  pub same : (i j : ℕ) → IsProperPair old.nodes i j → ¬ IsQueued new i j → set_of new i j ≡ set_of old i j

-- the set of (i, j) became its part within rel, and no other pair's changed
pub record IsPairMet (old new : Worklist) (i j rel : ℕ) : Type 0 where
  pub set : set_of new i j ≡ bit_and (set_of old i j) rel
  pub others : (a b : ℕ) → IsProperPair old.nodes a b → ¬ IsSamePair a b i j → set_of new a b ≡ set_of old a b

-- the sets of i to the greater nodes below k became their parts within the words of their edges, and no others changed
pub record IsRowMet (words : List ℕ) (old new : Worklist) (i k : ℕ) : Type 0 where
  pub each : (j : ℕ) → i < j → j < k → set_of new i j ≡ bit_and (set_of old i j) (slice_index words (edge_at old.nodes i j))
  pub others : (a b : ℕ) → a < b → b < old.nodes → (a ≢ i) ⊎ (k ≤ b) → set_of new a b ≡ set_of old a b

-- and so did those of each node below k to all greater ones
pub record AreRowsMet (words : List ℕ) (old new : Worklist) (k : ℕ) : Type 0 where
  pub each : (i j : ℕ) → i < k → i < j → j < old.nodes → set_of new i j ≡ bit_and (set_of old i j) (slice_index words (edge_at old.nodes i j))
  pub others : (i j : ℕ) → k ≤ i → i < j → j < old.nodes → set_of new i j ≡ set_of old i j

-- the numbers of planes that sets are kept in
abbrev pub IsPlanes : ℕ → Type 0
IsPlanes planes = (planes ≡ 1) ⊎ (planes ≡ 2) ⊎ (planes ≡ 4) ⊎ (planes ≡ 8)
