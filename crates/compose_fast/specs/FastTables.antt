-- The tables by which a calculus composes sets and turns them round.
use Rattle.std.specs.Prelude.{◌≡◌, ℕ, ◌+◌, ◌*◌, ◌<◌, ◌≤◌, List, length, slice_index}
use Rattle.calculus_table.specs.Rel.{IsWithin}
use Rattle.calculus_table.specs.Algebra.{Algebra}
use Rattle.calculus_table.specs.Composition.{full_of}
use Rattle.calculus_table.specs.Calculus.{IsCalculus}
use Rattle.compose_fast.specs.Nibbles.{composition_at, converse_of_place}
use Rattle.compose_fast.specs.Planes.{IsTableOf}

-- of each set a of up to eight base relations the table from 32 a on
pub record AreSetTables (m : Algebra) (sets : List ℕ) : Type 0 where
  pub length_is : m.size ≤ 8 → length sets ≡ 8192
  pub each : m.size ≤ 8 → (a : ℕ) → IsWithin a (full_of m) → IsTableOf m a sets (32 * a)

-- of each base relation r its compositions with the sets of the places at 256 r, and the converses of those sets
pub record AreFastTables (m : Algebra) (full nibbles : ℕ) (rows converses sets : List ℕ) : Type 0 where
  pub calculus : IsCalculus m
  pub full_is : full ≡ full_of m
  pub enough : m.size ≤ 4 * nibbles
  pub few : nibbles ≤ 16
  pub rows_length : length rows ≡ 256 * m.size
  pub rows_each : (r d : ℕ) → r < m.size → d < 256 → slice_index rows (256 * r + d) ≡ composition_at m r d
  pub converses_length : length converses ≡ 256
  pub converses_each : (d : ℕ) → d < 256 → slice_index converses d ≡ converse_of_place m d
  pub of_sets : AreSetTables m sets
