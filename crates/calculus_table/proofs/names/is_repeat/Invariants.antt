use Rattle.std.proofs.Common.{◌≢◌, ℕ, ◌<◌, map, slice_get}
use Rattle.std.specs.String.{string_bytes}
use Rattle.calculus_table.proofs.names.is_repeat.Given as goal

abbrev pub invariant-loop-j : goal.invariant-loop-j
invariant-loop-j l = (i : ℕ) → i < l.j → slice_get (map string_bytes l.names) i ≢ slice_get (map string_bytes l.names) l.k
