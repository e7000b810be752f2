use Rattle.std.proofs.Common.{◌≡◌, ℕ, ◌<◌, length, slice_index}
use Rattle.stepped_networks.specs.Rows.{row_shift}
use Rattle.stepped_networks.proofs.rows.Rows.of.Given as goal

abbrev pub invariant-loop-i : goal.invariant-loop-i
invariant-loop-i l = record {
  length_is : length l.shifts.items ≡ l.i;
  each : (k : ℕ) → k < l.i → slice_index l.shifts.items k ≡ row_shift l.nodes k;
}
