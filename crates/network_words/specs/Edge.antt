-- Edges: the pairs i < j of nodes in lexicographic order, numbered from 0.
use Rattle.std.specs.Prelude.{ℕ, ◌≡◌, ◌≢◌, ◌+◌, ◌-◌, ◌*◌, ◌/◌, ◌<◌, ◌⊎◌, nat_lt, if◌then◌else◌}

-- the number of edges among n nodes
abbrev pub edge_count : ℕ → ℕ
edge_count n = n * (n - 1) / 2

-- the number of the edge from i to j, where i < j
unfoldable pub edge_at : ℕ → ℕ → ℕ → ℕ
edge_at n i j = i * (2 * n - i - 1) / 2 + (j - i - 1)

-- the number of the edge between two nodes, in whichever order
abbrev pub edge_between : ℕ → ℕ → ℕ → ℕ
edge_between n i j = if nat_lt i j then edge_at n i j else edge_at n j i

-- the edge with the number e
pub record EdgeOf (n e : ℕ) : Type 0 where
  pub first : ℕ
  pub second : ℕ
  pub order : first < second
  pub below : second < n
  pub number : edge_at n first second ≡ e

-- the pair (i, j) comes before (k, l) in lexicographic order
abbrev pub ComesBefore : ℕ → ℕ → ℕ → ℕ → Type 0
ComesBefore i j k l = (i < k) ⊎ ((i ≡ k) × (j < l))

-- the pair (a, b) is the pair (i, j), in whichever order
abbrev pub IsSamePair : ℕ → ℕ → ℕ → ℕ → Type 0
IsSamePair a b i j = ((a ≡ i) × (b ≡ j)) ⊎ ((a ≡ j) × (b ≡ i))

-- two nodes that differ
pub record IsProperPair (n i j : ℕ) : Type 0 where
  pub first_below : i < n
  pub second_below : j < n
  pub differ : i ≢ j

-- three nodes that differ
pub record IsProperTriple (n i j k : ℕ) : Type 0 where
  pub first_below : i < n
  pub second_below : j < n
  pub third_below : k < n
  pub first_second : i ≢ j
  pub second_third : j ≢ k
  pub first_third : i ≢ k
