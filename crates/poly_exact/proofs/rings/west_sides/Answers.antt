use Rattle.poly_exact.proofs.Built.{flags_none, flags_more, flags_end}
use Rattle.poly_exact.proofs.rings.west_sides.Goals as goal

pub loop-e-init : goal.loop-e-init
loop-e-init c = flags_none c.args.vs.now c.new-west.result.items c.new-west.ensures.items

pub loop-e-preserved : goal.loop-e-preserved
loop-e-preserved c = flags_more c.args.vs.now c.loop-e.west.items c.push.new.self.items c.loop-e.e c.is_west.result c.in_ok-push.ensures.items c.is_west.ensures c.loop-e.invariant

pub returns : goal.returns
returns c = flags_end c.args.vs.now c.loop-e.west.items c.loop-e.e c.loop-e-test.false c.loop-e.auto.e-end c.loop-e.invariant
