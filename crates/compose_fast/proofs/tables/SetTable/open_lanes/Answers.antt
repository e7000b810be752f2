use Rattle.compose_fast.proofs.PlaneLemmas.{AreGapsBelow-one}
use Rattle.compose_fast.proofs.tables.SetTable.open_lanes.Goals as goal

pub returns-clause-clear : goal.returns-clause-clear
returns-clause-clear c = λ k l none p b.
    let gaps = AreGapsBelow-one c.args.self.now c.self.inside.low c.self.inside.high c.args.bytes.now c.self.view_is c.self.invariant.0 c.self.invariant.1 c.type_inv.bytes
    c.load-v.result c.load.result c.along-composed.result c.both.result c.differing.result c.args.here c.args.there
    c.load-v.ensures c.load.ensures c.along-composed.ensures c.both.ensures c.differing.ensures.lanes c.differing.ensures.below in
    gaps.clear k l none p b

pub returns-clause-gap : goal.returns-clause-gap
returns-clause-gap c = λ k l has within.
    let gaps = AreGapsBelow-one c.args.self.now c.self.inside.low c.self.inside.high c.args.bytes.now c.self.view_is c.self.invariant.0 c.self.invariant.1 c.type_inv.bytes
    c.load-v.result c.load.result c.along-composed.result c.both.result c.differing.result c.args.here c.args.there
    c.load-v.ensures c.load.ensures c.along-composed.ensures c.both.ensures c.differing.ensures.lanes c.differing.ensures.below in
    let w = gaps.gap k has in
    w.2 (within w.0 w.1)
