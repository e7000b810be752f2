use Rattle.std.proofs.Common.{◌*◌}
use Rattle.calculus_table.proofs.Sets.{not_Has-empty}
use Rattle.edge_propagation.proofs.Steps.{IsStep-refl}
use Rattle.edge_propagation.proofs.Blocks.{settled-clear}
use Rattle.edge_propagation.proofs.propagation.propagate_block.Goals as goal

pub returns-then-is_empty-clause-step : goal.returns-then-is_empty-clause-step
returns-then-is_empty-clause-step g c = IsStep-refl _ _ c.requires.ready.sets

pub returns-then-is_empty-clause-settled : goal.returns-then-is_empty-clause-settled
returns-then-is_empty-clause-settled g c = λ l small t _.
    let r = c.requires in
    settled-clear (g.C.Compose.algebra c.args.c.now) g.row.P c.args.work.now c.args.tables.now.set c.bytes.result.now c.args.i c.args.j (16 * c.args.block)
    c.byte_place-here.result c.byte_place-there.result l c.args.a r.ready c.bytes.ensures r.tables c.byte_place-here.ensures c.byte_place-there.ensures t r.set
    (c.open_lanes.ensures.clear l small (λ h. not_Has-empty l (rw (← c.of-gaps.ensures, c.is_empty.ensures.0 c.if-is_empty.true) at h)))

pub narrow_lanes-requires-clause-clear : goal.narrow_lanes-requires-clause-clear
narrow_lanes-requires-clause-clear g c = λ l small none t.
    let r = c.requires in
    settled-clear (g.C.Compose.algebra c.args.c.now) g.row.P c.args.work.now c.args.tables.now.set c.bytes.result.now c.args.i c.args.j (16 * c.args.block)
    c.byte_place-here.result c.byte_place-there.result l c.args.a r.ready c.bytes.ensures r.tables c.byte_place-here.ensures c.byte_place-there.ensures t r.set
    (c.open_lanes.ensures.clear l small (λ h. none (rw (← c.of-gaps.ensures) at h)))
