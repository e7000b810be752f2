use Rattle.std.proofs.Common.{◌≢◌, ℕ, ◌<◌, map, slice_get, Some}
use Rattle.std.specs.String.{string_bytes}
use Rattle.calculus_table.proofs.names.place_of.Given as goal

abbrev pub invariant-loop-r : goal.invariant-loop-r
invariant-loop-r l = (i : ℕ) → i < l.r → slice_get (map string_bytes l.names) i ≢ Some l.name
