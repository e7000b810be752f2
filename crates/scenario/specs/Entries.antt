-- The compositions of base relations as a table that is looked up.
use Rattle.std.specs.Prelude.{◌≡◌, ℕ, ◌*◌, ◌<◌, ◌≤◌, List, length, slice_index}
use Rattle.calculus_table.specs.Algebra.{Algebra}

-- the list begins with the compositions of the base relations, row by row
pub record BeginsWithTable (m : Algebra) (entries : List ℕ) : Type 0 where
  pub room : m.size * m.size ≤ length entries
  pub each : (e : ℕ) → e < m.size * m.size → slice_index entries e ≡ slice_index m.table e
