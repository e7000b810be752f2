-- Closed networks over straight classes, whose least base relations are a scenario.
use Rattle.std.specs.Prelude.{◌≡◌, ℕ, ◌<◌, ◌≤◌, List, length, slice_index, All, Contains, count_by, nat_lt, count_ones}
use Rattle.calculus_table.specs.Algebra.{Algebra}
use Rattle.network_words.specs.Edge.{edge_count}
use Rattle.network_words.specs.Network.{IsNetwork}
use Rattle.network_words.specs.Closure.{IsClosed}
use Rattle.tract_classes.specs.Class.{IsClosedClass}
use Rattle.tract_classes.specs.Straight.{IsLeast, IsStraight}

-- the list has the least base relation of each edge's set
pub record AreLeast (n : ℕ) (words relations : List ℕ) : Type 0 where
  pub length_is : length relations ≡ edge_count n
  pub each : (e : ℕ) → e < edge_count n → IsLeast (slice_index words e) (slice_index relations e)

-- a closed network each of whose sets is in the class
pub record IsClosedOver (m : Algebra) (n : ℕ) (class words : List ℕ) : Type 0 where
  pub is_network : IsNetwork m n words
  pub closed : IsClosed m n words
  pub members : All (Contains class) words

-- how many edges have several base relations
abbrev pub several_count : List ℕ → ℕ
several_count words = count_by (λ a. nat_lt 1 (count_ones a)) words

-- the sets of a closed network are members of a straight class that is closed, and there are no more edges with several base
-- relations than splits in the budget
pub record HasStraightBound (m : Algebra) (class : List ℕ) (budget : ℕ) (closure : List ℕ) : Type 0 where
  pub own : IsClosedClass m class
  pub straight : IsStraight m class
  pub members : All (Contains class) closure
  pub few : several_count closure ≤ budget
