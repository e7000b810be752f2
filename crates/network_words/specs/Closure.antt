-- Algebraic closure, which is also called path consistency (Allen 1983; Renz and Nebel).
use Rattle.std.specs.Prelude.{◌≡◌, ℕ, ◌<◌, ◌≤◌, List, length}
use Rattle.calculus_table.specs.Rel.{IsWithin}
use Rattle.calculus_table.specs.Algebra.{Algebra}
use Rattle.calculus_table.specs.Composition.{composition}
use Rattle.network_words.specs.Edge.{edge_at, IsProperTriple}
use Rattle.network_words.specs.Network.{IsNetwork, Refines, relation_between}

-- the set of (i, k) is within the composition along j
abbrev pub IsClosedAt : Algebra → ℕ → List ℕ → ℕ → ℕ → ℕ → Type 0
IsClosedAt m n words i j k = IsWithin (relation_between m n words i k) (composition m (relation_between m n words i j) (relation_between m n words j k))

-- the set of (i, k) is within the composition along every third node
abbrev pub IsPairClosed : Algebra → ℕ → List ℕ → ℕ → ℕ → Type 0
IsPairClosed m n words i k = (j : ℕ) → IsProperTriple n i j k → IsClosedAt m n words i j k

-- so is the set of each edge whose number is in the range from `from` up to but without `to`
pub record IsRangeClosed (m : Algebra) (n : ℕ) (words : List ℕ) (from to : ℕ) : Type 0 where
  pub each : (i k : ℕ) → i < k → k < n → from ≤ edge_at n i k → edge_at n i k < to → IsPairClosed m n words i k

-- each set is within the composition along every third node
pub record IsClosed (m : Algebra) (n : ℕ) (words : List ℕ) : Type 0 where
  pub each : (i j k : ℕ) → IsProperTriple n i j k → IsClosedAt m n words i j k

-- sets only became smaller, and no closed network within was lost
pub record KeepsClosed (m : Algebra) (n : ℕ) (old new : List ℕ) : Type 0 where
  pub length_is : length new ≡ length old
  pub within : Refines new old
  pub kept : (other : List ℕ) → IsNetwork m n other → IsClosed m n other → Refines other old → Refines other new

-- the greatest closed network within the given one
pub record IsClosure (m : Algebra) (n : ℕ) (words closure : List ℕ) : Type 0 where
  pub length_is : length closure ≡ length words
  pub closed : IsClosed m n closure
  pub within : Refines closure words
  pub greatest : (other : List ℕ) → length other ≡ length words → IsClosed m n other → Refines other words → Refines other closure
