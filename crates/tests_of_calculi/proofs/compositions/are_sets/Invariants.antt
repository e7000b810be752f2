use Rattle.std.proofs.Common.{ℕ, ◌<◌, slice_index}
use Rattle.calculus_table.specs.Rel.{IsWithin}
use Rattle.tests_of_calculi.proofs.compositions.are_sets.Given as goal

abbrev pub invariant-loop-set : goal.invariant-loop-set
invariant-loop-set l = (k : ℕ) → k < l.set-index → IsWithin (slice_index l.fn.table k) 18446744073709551615
