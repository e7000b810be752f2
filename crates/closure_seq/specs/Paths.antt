-- Paths of closed networks.
use Rattle.std.specs.Prelude.{◌≡◌, ℕ, zero, suc, ◌*◌, ◌<◌, ◌≤◌, List, [], ◌∷◌, ◌++◌, length, replicate, All, slice_index}
use Rattle.calculus_table.specs.Algebra.{Algebra}
use Rattle.calculus_table.specs.Composition.{full_of}
use Rattle.calculus_table.specs.Calculus.{IsCalculus}
use Rattle.network_words.specs.Edge.{IsProperPair}
use Rattle.network_words.specs.Network.{IsNetwork, relation_between}
use Rattle.network_words.specs.Closure.{IsClosed, IsClosure}
use Rattle.network_words.specs.declared.TheConstants.{MAX_NODES}
use Rattle.compose_fast.specs.Planes.{AreBaseTables}
use Rattle.edge_propagation.specs.Worklist.{Worklist, IsQueued, IsQuiet, set_of}
use Rattle.edge_propagation.specs.Propagation.{IsInStep, IsPlanes}
use Rattle.closure_seq.specs.Levels.{LevelSets}

-- what contracts see of a path: the calculus, the nodes, the words of the top, and those of the levels below it, the first
-- one first
pub record Path : Type 0 where
  pub algebra : Algebra
  pub nodes : ℕ
  pub top : List ℕ
  pub below : List (List ℕ)

-- a network that is closed
pub record IsClosedNetwork (m : Algebra) (n : ℕ) (words : List ℕ) : Type 0 where
  pub network : IsNetwork m n words
  pub closed : IsClosed m n words

-- each level of a path is a closed network of the calculus
pub record IsPath (path : Path) : Type 0 where
  pub calculus : IsCalculus path.algebra
  pub some : 0 < path.nodes
  pub bounded : path.nodes ≤ MAX_NODES
  pub top : IsClosedNetwork path.algebra path.nodes path.top
  pub below : All (IsClosedNetwork path.algebra path.nodes) path.below

-- the path of one level, the closure of a network
pub record IsPathOf (m : Algebra) (n : ℕ) (words : List ℕ) (path : Path) : Type 0 where
  pub algebra_is : path.algebra ≡ m
  pub nodes_are : path.nodes ≡ n
  pub closure : IsClosure m n words path.top
  pub first : path.below ≡ []

-- each set of the closure is empty
abbrev pub IsEmptyClosure : Algebra → ℕ → List ℕ → Type 0
IsEmptyClosure m n words =
    (closure : List ℕ) → length closure ≡ length words → ((e : ℕ) → slice_index closure e ≡ 0) → IsClosure m n words closure

-- ---- levels with an empty set, which are only counted

-- the top, where so many levels are counted above these words
abbrev pub counted_top : ℕ → List ℕ → List ℕ
counted_top zero words = words
counted_top (suc k) words = replicate (length words) 0

-- and the levels below it
abbrev pub counted_below : ℕ → List ℕ → List (List ℕ) → List (List ℕ)
counted_below zero words below = below
counted_below (suc k) words below = below ++ words ∷ replicate k (replicate (length words) 0)

-- ---- the worklist beside the levels

-- the sets of the pairs whose edges aren't queued are those of the network
pub record IsInStepBut (m : Algebra) (n : ℕ) (words : List ℕ) (work : Worklist) : Type 0 where
  pub nodes : work.nodes ≡ n
  pub sets : (i j : ℕ) → IsProperPair n i j → ¬ IsQueued work i j → set_of work i j ≡ relation_between m n words i j

-- closed networks, level above level, and a worklist with the sets of the top, of which no edge is queued
pub record IsStanding (m : Algebra) (work : Worklist) (levels : LevelSets) (bases : List ℕ) : Type 0 where
  pub calculus : IsCalculus m
  pub planes : IsPlanes work.planes
  pub enough : m.size ≤ 8 * work.planes
  pub tables : AreBaseTables m work.planes bases
  pub full_is : levels.full ≡ full_of m
  pub in_step : IsInStep m levels.nodes levels.top work
  pub quiet : IsQuiet work
  pub top : IsClosedNetwork m levels.nodes levels.top
  pub below : All (IsClosedNetwork m levels.nodes) levels.below
