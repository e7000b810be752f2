-- Names as numbers.
use Rattle.std.specs.Prelude.{◌≡◌, ◌≢◌, ℕ, ◌+◌, ◌*◌, ◌<◌, List, [], ◌∷◌, Some, slice_get, slice_index}

-- a name as a number: its bytes are the digits to base 256, the first one the lowest, and above them stands a 1
abbrev pub key_of : List ℕ → ℕ
key_of [] = 1
key_of (b ∷ bs) = b + 256 * key_of bs

-- the number is the key of this name
pub record IsKeyOf (key : ℕ) (name : List ℕ) : Type 0 where
  pub bytes : (i : ℕ) → slice_index name i < 256
  pub value : key ≡ key_of name

-- the number is the key of the name at this place
pub record IsKeyAt (names : List (List ℕ)) (place : ℕ) (key : ℕ) : Type 0 where
  pub name : List ℕ
  pub there : slice_get names place ≡ Some name
  pub is : IsKeyOf key name

-- where a number other than 0 stands, it is the key of the name there
abbrev pub AreKeys : List (List ℕ) → List ℕ → Type 0
AreKeys names keys = (r : ℕ) → slice_index keys r ≢ 0 → IsKeyAt names r (slice_index keys r)
