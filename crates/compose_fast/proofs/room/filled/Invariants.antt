use Rattle.std.proofs.Common.{◌≡◌, ◌*◌, ◌≤◌, replicate}
use Rattle.std.specs.Vec.{vec_capacity}
use Rattle.compose_fast.proofs.room.filled.Given as goal

abbrev pub invariant-loop-block : goal.invariant-loop-block
invariant-loop-block g l = record {
  items : l.all.items ≡ replicate (256 * l._block) l.fn.value;
  room : 256 * l.fn.blocks ≤ vec_capacity l.all;
}
