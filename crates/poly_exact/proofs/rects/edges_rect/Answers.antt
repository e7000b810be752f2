use Rattle.std.proofs.Common.{arith}
use Rattle.poly_exact.proofs.Covering.{covers_none, covers_more, covers_end}
use Rattle.poly_exact.proofs.rects.edges_rect.Goals as goal

pub loop-e-init : goal.loop-e-init
loop-e-init c = let s = c.requires.small.each c.args.from c.requires.some in covers_none _ c.args.vs.now c.args.from s s

pub loop-e-preserved : goal.loop-e-preserved
loop-e-preserved c =
    covers_more c.loop-e.rect c.grow.result c.grow-rect.result c.args.vs.now c.args.from c.loop-e.e c.next_index.result c.requires.small (omega arith) c.next_index.ensures.below c.next_index.ensures.following
    c.grow.ensures c.grow-rect.ensures c.loop-e.invariant

pub returns : goal.returns
returns c = covers_end c.loop-e.rect c.args.vs.now c.args.from c.args.to c.loop-e.e c.loop-e-test.false c.loop-e.invariant
