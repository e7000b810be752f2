-- Whole-number intervals that realise a scenario of Allen's algebra (Allen 1983), and the ranks of their end points.
use Rattle.std.specs.Prelude.{◌≡◌, ℕ, ◌<◌, ◌==◌, ◌||◌, Bool, List, length, slice_index, slice_index_or}
use Rattle.std.specs.Prelude.{replicate, IsTrue}
use Rattle.std.specs.List.{count_by, list_any, range_with_len}
use Rattle.calculus_table.specs.Composition.{full_of}
use Rattle.calculus_builtin.specs.Allen
use Rattle.network_words.specs.Edge.{edge_count, edge_at}
use Rattle.network_words.specs.Scenario.{IsScenario}
use Rattle.allen_real.specs.declared.intervals.Interval.{Interval}
use Rattle.allen_real.specs.EndPoints.{no_interval, extent}

-- the network of n nodes that leaves each edge all base relations of Allen's algebra
abbrev pub open_network : ℕ → List ℕ
open_network n = replicate (edge_count n) (full_of Allen.allen_algebra)

-- a scenario of it
abbrev pub IsAllenScenario : ℕ → List ℕ → Type 0
IsAllenScenario n relations = IsScenario Allen.allen_algebra n (open_network n) relations

-- the interval of node i
abbrev pub interval_at : List Interval → ℕ → Allen.Interval
interval_at xs i = extent (slice_index_or xs i no_interval)

-- an interval for each node, each two of which lie in the base relation of their nodes
pub record Realise (n : ℕ) (relations : List ℕ) (xs : List Interval) : Type 0 where
  pub one_each : length xs ≡ n
  pub proper : (i : ℕ) → i < n → Allen.IsInterval (interval_at xs i)
  pub related : (i j : ℕ) → i < j → j < n →
      IsTrue (Allen.holds (slice_index relations (edge_at n i j)) (interval_at xs i) (interval_at xs j))

-- whether the number p is an end point of an interval
abbrev pub is_end_point : List Interval → ℕ → Bool
is_end_point xs p = list_any (λ x. (x.lo == p) || (x.hi == p)) xs

-- the rank of p: how many classes of equal end points lie below it, each of which is a number that is an end point
abbrev pub rank : List Interval → ℕ → ℕ
rank xs p = count_by (is_end_point xs) (range_with_len 0 p)

-- each end point is its rank
pub record AreRanks (xs : List Interval) : Type 0 where
  pub low : (i : ℕ) → i < length xs → (interval_at xs i).low ≡ rank xs (interval_at xs i).low
  pub high : (i : ℕ) → i < length xs → (interval_at xs i).high ≡ rank xs (interval_at xs i).high

-- the intervals realise the base relations, by ranks
pub record RealiseByRanks (n : ℕ) (relations : List ℕ) (xs : List Interval) : Type 0 where
  pub realise : Realise n relations xs
  pub ranks : AreRanks xs
