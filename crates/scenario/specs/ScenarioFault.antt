-- Why a list of base relations is no scenario of a network (Renz and Nebel): the first of the checks, in their order, that fails,
-- at the first place.
use Rattle.std.specs.Prelude.{◌≡◌, ℕ, ◌<◌, List, length, slice_index}
use Rattle.calculus_table.specs.Rel.{Has}
use Rattle.calculus_table.specs.Algebra.{Algebra, entry_at}
use Rattle.network_words.specs.Edge.{edge_count, edge_at}
use Rattle.scenario.specs.declared.checking.At.{At}
use Rattle.scenario.specs.declared.checking.At.TheVariants.{Outside, Triple, Shape}

-- a base relation of the calculus for each edge
pub record HasShape (m : Algebra) (n : ℕ) (relations : List ℕ) : Type 0 where
  pub length_is : length relations ≡ edge_count n
  pub below : (e : ℕ) → e < edge_count n → slice_index relations e < m.size

-- the base relation of the edge e is in its set
abbrev pub IsMemberAt : List ℕ → List ℕ → ℕ → Type 0
IsMemberAt words relations e = Has (slice_index words e) (slice_index relations e)

-- so is that of the edge from i to j
abbrev pub IsMemberBetween : ℕ → List ℕ → List ℕ → ℕ → ℕ → Type 0
IsMemberBetween n words relations i j = IsMemberAt words relations (edge_at n i j)

-- the base relation of (i, k) is in the composition of those of (i, j) and (j, k)
abbrev pub ComposesAt : Algebra → ℕ → List ℕ → ℕ → ℕ → ℕ → Type 0
ComposesAt m n relations i j k =
    Has (entry_at m (slice_index relations (edge_at n i j)) (slice_index relations (edge_at n j k))) (slice_index relations (edge_at n i k))

-- a fact of each edge, and of each triple of nodes in ascending order
abbrev pub EachEdge : ℕ → (ℕ → Type 0) → Type 0
EachEdge n P = (e : ℕ) → e < edge_count n → P e

abbrev pub EachTriple : ℕ → (ℕ → ℕ → ℕ → Type 0) → Type 0
EachTriple n P = (i j k : ℕ) → i < j → j < k → k < n → P i j k

-- the edge of (i, j) is the first without the property
pub record IsFirstEdge (n : ℕ) (P : ℕ → Type 0) (i j : ℕ) : Type 0 where
  pub order : i < j
  pub below : j < n
  pub here : ¬ P (edge_at n i j)
  pub before : (e : ℕ) → e < edge_at n i j → P e

-- (i, j, k) is the first triple i < j < k, in lexicographic order, without the property
pub record IsFirstTriple (n : ℕ) (P : ℕ → ℕ → ℕ → Type 0) (i j k : ℕ) : Type 0 where
  pub first_order : i < j
  pub second_order : j < k
  pub below : k < n
  pub here : ¬ P i j k
  pub before : (c : ℕ) → j < c → c < k → P i j c
  pub second_before : (b c : ℕ) → i < b → b < j → b < c → c < n → P i b c
  pub first_before : (a b c : ℕ) → a < i → a < b → b < c → c < n → P a b c

-- the checks before it hold, and its own fails first at this place
abbrev pub IsFaultOf : Algebra → ℕ → List ℕ → List ℕ → At → Type 0
IsFaultOf m n words relations Shape = ¬ HasShape m n relations
IsFaultOf m n words relations (Outside i j) = HasShape m n relations × IsFirstEdge n (IsMemberAt words relations) i j
IsFaultOf m n words relations (Triple i j k) =
    HasShape m n relations × EachEdge n (IsMemberAt words relations) × IsFirstTriple n (ComposesAt m n relations) i j k
