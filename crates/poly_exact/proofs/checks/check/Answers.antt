use Rattle.poly_exact.proofs.Checked.{all_good_none, all_good_more, simple_end, first_bad}
use Rattle.poly_exact.proofs.checks.check.Goals as goal

pub loop-e-init : goal.loop-e-init
loop-e-init c = all_good_none c.args.vs.now

pub returns-in-Meet : goal.returns-in-Meet
returns-in-Meet c = first_bad c.args.vs.now c.loop-e.e c.in-Meet.f c.in-Meet.ensures.1 c.loop-e.invariant

pub loop-e-preserved : goal.loop-e-preserved
loop-e-preserved c = all_good_more c.args.vs.now c.loop-e.e c.in-Simple.ensures c.loop-e.invariant

pub returns : goal.returns
returns c = simple_end c.args.vs.now c.loop-e.e c.loop-e-test.false c.requires.proper c.loop-e.invariant
