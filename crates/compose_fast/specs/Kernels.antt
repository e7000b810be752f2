-- What the loops over words find.
use Rattle.std.specs.Prelude.{◌≡◌, ◌≢◌, ℕ, ◌<◌, List, length, slice_index}
use Rattle.calculus_table.specs.Composition.{union_below, if_has}

-- the union of the rows whose bit is set in the mask
abbrev pub union_of_rows : List ℕ → ℕ → ℕ
union_of_rows rows mask = union_below (length rows) (λ r. if_has mask r (slice_index rows r))

-- the least place at which two lists differ
pub record IsFirstDifference (a b : List ℕ) (at : ℕ) : Type 0 where
  pub below : at < length a
  pub here : slice_index a at ≢ slice_index b at
  pub before : (k : ℕ) → k < at → slice_index a k ≡ slice_index b k

-- the least place of a zero
pub record IsFirstZero (a : List ℕ) (at : ℕ) : Type 0 where
  pub below : at < length a
  pub here : slice_index a at ≡ 0
  pub before : (k : ℕ) → k < at → slice_index a k ≢ 0
