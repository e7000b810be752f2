use Rattle.std.proofs.Common.{◌≡◌, ◌≤◌, ◌-◌, length}
use Rattle.std.specs.Prelude.{slice_index, bit_or}
use Rattle.calculus_table.specs.Composition.{union_below, if_has}
use Rattle.compose_fast.proofs.kernels.or_rows.Given as goal

abbrev pub invariant-loop-i : goal.invariant-loop-i
invariant-loop-i l = record {
  lanes : length l.all ≡ 2;
  inside : l.i ≤ length l.rows;
  union : bit_or (slice_index l.all 0) (slice_index l.all 1) ≡ union_below l.i (λ r. if_has l.mask r (slice_index l.rows r));
}

abbrev pub decreases-loop-i : goal.decreases-loop-i
decreases-loop-i l = length l.rows - l.i
