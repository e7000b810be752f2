use Rattle.de9im.proofs.Sights.{boundary_first, boundary_step, boundary_end}
use Rattle.de9im.proofs.cuts.boundary.Goals as goal

pub loop-e-init : goal.loop-e-init
loop-e-init c = boundary_first c.args.a.vertices.now c.args.b.vertices.now

pub loop-e-preserved : goal.loop-e-preserved
loop-e-preserved c = boundary_step c.args.a.vertices.now c.args.b.vertices.now c.loop-e.sight c.edge_view.result c.join-sight.result c.loop-e.e c.next_index.result c.loop-e-test.true c.next_index.ensures.following c.join-sight.ensures c.edge_view.ensures c.loop-e.invariant

pub returns : goal.returns
returns c = boundary_end c.args.a.vertices.now c.args.b.vertices.now c.loop-e.sight c.loop-e.e c.requires.one.ring.simple c.loop-e-test.false c.loop-e.auto.e-end c.loop-e.invariant
