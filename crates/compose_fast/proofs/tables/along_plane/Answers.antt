use Rattle.std.proofs.Common.{◌+◌, arith}
use Rattle.compose_fast.proofs.PlaneLemmas.{no-planes, plane-step}
use Rattle.compose_fast.proofs.tables.along_plane.Goals as goal

pub loop-q-init : goal.loop-q-init
loop-q-init g c = no-planes c.args.set.now c.args.bytes.now c.args.p c.args.at

pub loop-q-preserved : goal.loop-q-preserved
loop-q-preserved g c =
    plane-step c.args.set.now c.args.bytes.now c.loop-q.all c.load-low.result c.load-high.result c.load.result c.along.result c.either-all.result
    c.args.p c.loop-q.q (c.loop-q.q + 1) c.args.at (omega arith) c.type_inv.bytes c.loop-q.invariant c.load-low.ensures c.load-high.ensures c.load.ensures c.along.ensures c.either-all.ensures
