use Rattle.std.proofs.Common.{◌∙◌, arith}
use Rattle.compose_fast.proofs.Fills.{replicate-block}
use Rattle.compose_fast.proofs.room.filled.Goals as goal

pub loop-block-preserved : goal.loop-block-preserved
loop-block-preserved g c = record {
  items = c.push_block.ensures.items
      ∙ replicate-block c.loop-block._block c.args.value c.loop-block.all.items c.deref.result.now c.loop-block.invariant.items (c.deref.ensures.value ∙ c.in_ok-block.ensures);
  room = omega (arith, c.push_block.ensures.room);
}
