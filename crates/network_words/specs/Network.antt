-- Networks of sets of base relations, one set for each pair of nodes.
use Rattle.std.specs.Prelude.{◌≡◌, ℕ, ◌<◌, ◌≤◌, List, length, nat_lt, if◌then◌else◌, slice_index, slice_set, bit_and}
use Rattle.calculus_table.specs.Rel.{IsWithin}
use Rattle.calculus_table.specs.Algebra.{Algebra}
use Rattle.calculus_table.specs.Composition.{full_of, converse}
use Rattle.calculus_table.specs.Calculus.{AreDistinct}
use Rattle.network_words.specs.Edge.{edge_count, edge_at}
use Rattle.network_words.specs.declared.TheConstants.{MAX_NODES}

-- what contracts see of a network: the nodes, the set that it was opened with, a set for each edge in edge order, and the
-- names of the nodes, none or one for each
pub record Network : Type 0 where
  pub nodes : ℕ
  pub full : ℕ
  pub words : List ℕ
  pub names : List (List ℕ)

-- a set of base relations for each edge
pub record IsNetwork (m : Algebra) (n : ℕ) (words : List ℕ) : Type 0 where
  pub length_is : length words ≡ edge_count n
  pub within : (e : ℕ) → IsWithin (slice_index words e) (full_of m)

-- the set of the pair (i, j): its edge's set, or the converse of that where the pair is the other way round
abbrev pub relation_between : Algebra → ℕ → List ℕ → ℕ → ℕ → ℕ
relation_between m n words i j =
    if nat_lt i j then slice_index words (edge_at n i j) else converse m (slice_index words (edge_at n j i))

-- the set x of the pair (i, j) as its edge stores it: the converse where the pair is the other way round
abbrev pub oriented : Algebra → ℕ → ℕ → ℕ → ℕ
oriented m i j x = if nat_lt i j then x else converse m x

-- the network in which the set of the pair (i, j) is intersected with x
abbrev pub narrowed_at : Algebra → ℕ → List ℕ → ℕ → ℕ → ℕ → List ℕ
narrowed_at m n words i j x =
    if nat_lt i j
    then slice_set words (edge_at n i j) (bit_and (slice_index words (edge_at n i j)) x)
    else slice_set words (edge_at n j i) (bit_and (slice_index words (edge_at n j i)) (converse m x))

-- every set of the first is within that of the second
pub record Refines (xs ys : List ℕ) : Type 0 where
  pub each : (e : ℕ) → IsWithin (slice_index xs e) (slice_index ys e)

-- what every network of the code keeps: at least one node and no more than the limit, a set for each edge, and names that
-- differ, none or one for each node
pub record IsShaped (net : Network) : Type 0 where
  pub some : 0 < net.nodes
  pub bounded : net.nodes ≤ MAX_NODES
  pub length_is : length net.words ≡ edge_count net.nodes
  pub named : 0 < length net.names → length net.names ≡ net.nodes
  pub distinct : AreDistinct net.names
