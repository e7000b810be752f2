use Rattle.poly_exact.proofs.Checked.{pair_next, pair_last, pair_cross, pair_share}
use Rattle.poly_exact.proofs.checks.is_good_pair.Goals as goal

pub returns-then-f-g : goal.returns-then-f-g
returns-then-f-g c = pair_next c.args.vs.now c.args.e c.args.f c.next_index-g.result c.next_index-h.result c.next_index-g.ensures.following c.next_index-h.ensures.following c.in-Touch.ensures c.if-f-g.true

pub returns-else-f-g : goal.returns-else-f-g
returns-else-f-g c = pair_last c.args.vs.now c.args.e c.args.f c.next_index-g.result c.next_index-h.result c.next_index-g.ensures.following c.next_index-h.ensures.following c.in-Touch.ensures c.if-f-g.false

pub returns-in-Proper : goal.returns-in-Proper
returns-in-Proper c = pair_cross c.args.vs.now c.args.e c.args.f c.next_index-g.result c.next_index-h.result c.next_index-g.ensures.following c.next_index-h.ensures.following c.in-Proper.ensures

pub returns-in-Stretch : goal.returns-in-Stretch
returns-in-Stretch c = pair_share c.args.vs.now c.args.e c.args.f c.next_index-g.result c.next_index-h.result c.next_index-g.ensures.following c.next_index-h.ensures.following c.in-Stretch.ensures
