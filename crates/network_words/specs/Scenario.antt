-- Scenarios: one base relation for each pair of nodes, which agree along every third node (Renz and Nebel).
use Rattle.std.specs.Prelude.{◌≡◌, ℕ, ◌^◌, ◌<◌, List, length, map, slice_index}
use Rattle.calculus_table.specs.Rel.{Has}
use Rattle.calculus_table.specs.Algebra.{Algebra, entry_at}
use Rattle.network_words.specs.Edge.{edge_count, edge_at}

-- one base relation for each edge, in the edge's set, with that of (i, k) in the composition of those of (i, j) and (j, k)
pub record IsScenario (m : Algebra) (n : ℕ) (words relations : List ℕ) : Type 0 where
  pub length_is : length relations ≡ edge_count n
  pub below : (e : ℕ) → e < edge_count n → slice_index relations e < m.size
  pub member : (e : ℕ) → e < edge_count n → Has (slice_index words e) (slice_index relations e)
  pub composes : (i j k : ℕ) → i < j → j < k → k < n →
      Has (entry_at m (slice_index relations (edge_at n i j)) (slice_index relations (edge_at n j k))) (slice_index relations (edge_at n i k))

-- a scenario read as a network: the set of each edge has one base relation alone
abbrev pub as_network : List ℕ → List ℕ
as_network relations = map (λ r. 2 ^ r) relations
