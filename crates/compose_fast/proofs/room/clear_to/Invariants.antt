use Rattle.std.proofs.Common.{◌≡◌, ◌*◌, ◌≤◌, replicate}
use Rattle.std.specs.Vec.{vec_capacity}
use Rattle.compose_fast.proofs.room.clear_to.Given as goal

abbrev pub invariant-loop-zeros : goal.invariant-loop-zeros
invariant-loop-zeros l = record {
  items : l.all.items ≡ replicate (256 * l._zeros) 0;
  room : vec_capacity l.fn.all ≤ vec_capacity l.all;
}
