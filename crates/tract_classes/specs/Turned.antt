-- Compositions with a set turned round. As the converse of a;b is that of b composed with that of a, one for each two members tells of
-- both orders.
use Rattle.std.specs.Prelude.{◌≡◌, ℕ, ◌*◌, ◌/◌, ◌%◌, ◌^◌, ◌<◌, ◌≤◌, List, length, slice_index, Contains, bit_or}
use Rattle.calculus_table.specs.Algebra.{Algebra}
use Rattle.calculus_table.specs.Composition.{composition, converse}

-- the composition of the converse of a with b
abbrev pub turned : Algebra → ℕ → ℕ → ℕ
turned m b a = composition m (converse m a) b

-- it is a member
abbrev pub HasTurned : Algebra → List ℕ → ℕ → ℕ → Type 0
HasTurned m class b a = Contains class (turned m b a)

-- a fact of each member from place k on
abbrev pub EachFrom : List ℕ → ℕ → (ℕ → Type 0) → Type 0
EachFrom class k P = (j : ℕ) → k ≤ j → j < length class → P (slice_index class j)

-- a table for b: at place d, the composition of b with the set d of base relations from `first` on turned round
pub record IsTableOf (m : Algebra) (b first : ℕ) (table : List ℕ) : Type 0 where
  pub each : (d : ℕ) → d < 256 → slice_index table d ≡ turned m b (d * 2 ^ first)

-- the first two bytes of a set looked up in two tables
abbrev pub looked_up : List ℕ → List ℕ → ℕ → ℕ
looked_up low high a = bit_or (slice_index low (a % 256)) (slice_index high (a / 256 % 256))

-- it is a member
abbrev pub HasLookedUp : List ℕ → List ℕ → List ℕ → ℕ → Type 0
HasLookedUp class low high a = Contains class (looked_up low high a)
