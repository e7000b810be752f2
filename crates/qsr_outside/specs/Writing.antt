-- What writing to a sink leaves after.
use Rattle.std.specs.Prelude.{ℕ, ◌<◌, List, Option, length, take}
use Rattle.std.specs.Io.KnownBytes.{Appends}

-- the bytes held, where told, grew by a prefix of `bytes` that leaves some of them out
pub record AppendsPart (old new : Option (List ℕ)) (bytes : List ℕ) : Type 0 where
  pub taken : ℕ
  pub within : taken < length bytes
  pub appended : Appends old new (take taken bytes)
