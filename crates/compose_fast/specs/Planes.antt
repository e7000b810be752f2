-- Sets in planes: the byte at 256 p + k holds members 8 p .. 8 p + 7 of the set at place k.
use Rattle.std.specs.Prelude.{◌≡◌, ℕ, ◌+◌, ◌*◌, ◌/◌, ◌%◌, ◌<◌, List, slice_index, bit_and, bit_or}
use Rattle.calculus_table.specs.Rel.{IsWithin}
use Rattle.calculus_table.specs.Algebra.{Algebra}
use Rattle.calculus_table.specs.Composition.{full_of, union_below, composition}
use Rattle.compose_fast.specs.Nibbles.{byte, set_of_place, composition_at}

-- what contracts see of tables: those of the base relations, and those of one set
pub record SetTables : Type 0 where
  pub bases : List ℕ
  pub set : List ℕ

-- the table of the set a for one plane, from a place on: byte 0 of its composition with the set of place d is d places after that
abbrev pub IsTableOf : Algebra → ℕ → List ℕ → ℕ → Type 0
IsTableOf m a bases at = (d : ℕ) → d < 32 → slice_index bases (at + d) ≡ byte (composition m a (bit_and (set_of_place d) (full_of m))) 0

-- the tables of the base relations: of r, byte p of its composition with the set of place d is at 2048 r + 256 p + d. For one plane
-- there are those of all sets, too: that of a is at 131072 + 32 a
pub record AreBaseTables (m : Algebra) (planes : ℕ) (bases : List ℕ) : Type 0 where
  pub each : (r p d : ℕ) → r < m.size → p < planes → d < 32 * planes →
      slice_index bases (2048 * r + 256 * p + d) ≡ byte (composition_at m r d) p
  pub sets : planes ≡ 1 → (a : ℕ) → a < 256 → IsWithin a (full_of m) → IsTableOf m a bases (131072 + 32 * a)

-- the tables of the set a: byte p of its composition with the set of place d is at 256 p + d
pub record AreTablesOf (m : Algebra) (planes a : ℕ) (set : List ℕ) : Type 0 where
  pub each : (p d : ℕ) → p < planes → d < 32 * planes →
      slice_index set (256 * p + d) ≡ byte (composition m a (bit_and (set_of_place d) (full_of m))) p

-- the byte y, which is byte q of a set, looked up in the tables of another: byte p of what the two nibbles give
abbrev pub looked_up : List ℕ → ℕ → ℕ → ℕ → ℕ
looked_up set p q y = bit_or (slice_index set (256 * p + 32 * q + y % 16)) (slice_index set (256 * p + 32 * q + 16 + y / 16))

-- byte p of what the tables give for the set at place k of the planes
abbrev pub along_at : List ℕ → List ℕ → ℕ → ℕ → ℕ → ℕ
along_at set bytes planes p k = union_below planes (λ q. looked_up set p q (slice_index bytes (256 * q + k)))

-- the set at one place is within what the tables give for the set at another, byte by byte
abbrev pub IsWithinAlong : List ℕ → List ℕ → ℕ → ℕ → ℕ → Type 0
IsWithinAlong set bytes planes here there = (p : ℕ) → p < planes →
    bit_and (slice_index bytes (256 * p + here)) (along_at set bytes planes p there) ≡ slice_index bytes (256 * p + here)
