-- What a class keeps besides its members.
use Rattle.std.specs.Prelude.{ℕ, ◌+◌, ◌*◌, ◌<◌, ◌↔◌, List, length, slice_index, Contains}
use Rattle.calculus_table.specs.Rel.{Has}
use Rattle.tract_classes.specs.Class.{IsClass}

-- row k has the number r where the set with the word k * 64 + r is among the sets
pub record AreRowsOf (sets rows : List ℕ) : Type 0 where
  pub each : (k r : ℕ) → k < length rows → r < 64 → Has (slice_index rows k) r ↔ Contains sets (k * 64 + r)

-- a class and its rows
pub record IsKept (class rows : List ℕ) : Type 0 where
  pub is_class : IsClass class
  pub are_rows : AreRowsOf class rows
