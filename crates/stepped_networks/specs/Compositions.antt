-- Compositions of nibbles with bytes, and converses of bytes.
use Rattle.std.specs.Prelude.{◌≡◌, ℕ, ◌+◌, ◌*◌, ◌/◌, ◌%◌, ◌<◌, ◌≤◌, List, length, slice_index, bit_and}
use Rattle.calculus_table.specs.Algebra.{Algebra}
use Rattle.calculus_table.specs.Composition.{full_of, composition, converse}
use Rattle.compose_fast.specs.Nibbles.{set_of_place}

-- the set of a place, as far as that has base relations of the calculus
abbrev pub set_at : Algebra → ℕ → ℕ
set_at m d = bit_and (set_of_place d) (full_of m)

-- the set of a byte, as far as that has base relations of the calculus
abbrev pub set_of_byte : Algebra → ℕ → ℕ
set_of_byte m b = bit_and b (full_of m)

-- the composition of the set of a place with that of a byte, at place 256 d + b of the table
unfoldable pub pair_entry : Algebra → ℕ → ℕ
pair_entry m e = composition m (set_at m (e / 256)) (set_of_byte m (e % 256))

-- the converse of the set of a byte
abbrev pub converse_entry : Algebra → ℕ → ℕ
converse_entry m b = converse m (set_of_byte m b)

-- the compositions of each nibble of a set of at most eight base relations with each such set, and the converses of these
pub record AreOfNibbles (m : Algebra) (pairs converses : List ℕ) : Type 0 where
  pub few : m.size ≤ 8
  pub pairs_length : length pairs ≡ 8192
  pub pairs_each : (d b : ℕ) → d < 32 → b < 256 → slice_index pairs (256 * d + b) ≡ composition m (set_at m d) (set_of_byte m b)
  pub converses_length : length converses ≡ 256
  pub converses_each : (b : ℕ) → b < 256 → slice_index converses b ≡ converse_entry m b
