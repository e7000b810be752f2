use Rattle.std.proofs.Common.{refl, ◌∙◌, arith}
use Rattle.compose_fast.proofs.Fills.{replicate-block}
use Rattle.compose_fast.proofs.room.clear_to.Goals as goal

pub loop-zeros-preserved : goal.loop-zeros-preserved
loop-zeros-preserved c = record {
  items = c.push_block.ensures.items ∙ replicate-block c.loop-zeros._zeros 0 c.loop-zeros.all.items _ c.loop-zeros.invariant.items refl;
  room = omega (arith, c.push_block.ensures.room);
}
