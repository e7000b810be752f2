use Rattle.poly_exact.proofs.Covering.{blocks_more, covers_block}
use Rattle.poly_exact.proofs.rects.block_rects.Goals as goal

pub loop-b-preserved : goal.loop-b-preserved
loop-b-preserved c =
    blocks_more c.args.vs.now c.loop-b.rects.items c.push.new.self.items c.loop-b.b c.edges_rect.result c.in_ok-push.ensures.items
    (covers_block c.edges_rect.result c.args.vs.now c.loop-b.b c.block_stop.result c.block_stop.ensures c.edges_rect.ensures) c.loop-b.invariant
