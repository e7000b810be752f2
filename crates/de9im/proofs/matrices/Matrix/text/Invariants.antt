use Rattle.std.proofs.Common.{◌≡◌, take, map}
use Rattle.std.specs.Prelude.{string_bytes}
use Rattle.de9im.specs.Entries.{dim_byte}
use Rattle.de9im.proofs.matrices.Matrix.text.Given as goal

abbrev pub invariant-loop-k : goal.invariant-loop-k
invariant-loop-k l = string_bytes l.text ≡ map dim_byte (take l.k l.entries)
