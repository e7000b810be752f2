use Rattle.std.proofs.Common.{ℕ, ◌<◌}
use Rattle.std.specs.Prelude.{slice_index}
use Rattle.calculus_table.specs.Rel.{IsWithin}
use Rattle.closure_seq.proofs.closing.are_within.Given as goal

abbrev pub invariant-loop-edge : goal.invariant-loop-edge
invariant-loop-edge l = record {
  within : (e : ℕ) → e < l.edge → IsWithin (slice_index l.words e) (slice_index l.others e);
}
