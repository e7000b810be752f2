use Rattle.std.proofs.Common.{◌≢◌, ℕ, ◌<◌, map, slice_get}
use Rattle.std.specs.String.{string_bytes}
use Rattle.calculus_table.proofs.names.first_repeat.Given as goal

abbrev pub invariant-loop-k : goal.invariant-loop-k
invariant-loop-k l = (i j : ℕ) → i < j → j < l.k → slice_get (map string_bytes l.names) i ≢ slice_get (map string_bytes l.names) j
