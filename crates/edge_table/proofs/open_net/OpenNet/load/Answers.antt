use Rattle.std.proofs.Common.{subst, ap, arith}
use Rattle.calculus_table.specs.Rel.{IsWithin}
use Rattle.calculus_table.specs.Composition.{full_of}
use Rattle.edge_table.specs.Opening.{opening_of, algebra_of}
use Rattle.edge_table.specs.declared.sight.Sight.{Sight}
use Rattle.edge_table.proofs.Rules.{length-padded}
use Rattle.edge_table.proofs.Steps.{seat_loads}
use Rattle.edge_table.proofs.Passes.{IsPass-sees, seen-network}
use Rattle.edge_table.proofs.open_net.OpenNet.load.Goals as goal

pub load-requires : goal.load-requires
load-requires c =
    let table = c.self.inside.table.shared in
    let o = opening_of table.key.views in
    let own = rw (← c.self.view_is, ← c.pass.view_is) at c.requires.pass in
    let edge = rw (← c.self.view_is) at c.requires.edge in
    let seat = c.pass.inside.seat in (
      own.id,
      omega (arith, c.self.invariant.words, c.self.invariant.length_is, length-padded o.words, edge),
      seat_loads o table.table_id.slots seat.id c.args.edge seat.me c.pass.invariant.carries c.pass.invariant.live edge,
    )

pub invariant_of-pass : goal.invariant_of-pass
invariant_of-pass c =
    IsPass-sees c.pass.inside.weight c.pass.inside.nodes c.pass.inside.full c.pass.inside.seat.table_id c.load.new.seat.table_id c.pass.inside.seat.me c.load.new.seat.me
    c.args.edge c.load.result c.pass.invariant (ap (λ (v : Sight). v.actor) c.load.ensures.2.after) c.load.ensures.2.carries

pub returns-clause-within : goal.returns-clause-within
returns-clause-within c =
    let own = rw (← c.self.view_is, ← c.pass.view_is) at c.requires.pass in
    let pass = invariant_of-pass c in
    let o = opening_of c.self.inside.table.shared.key.views in
    let net = seen-network (algebra_of o) c.pass.inside.nodes c.pass.inside.full c.load.new.seat.me.0.actor own.full pass.proper in
    rw (← c.self.view_is) (subst (λ x. IsWithin x (full_of (algebra_of o))) c.load.ensures.2.shown (net.within c.args.edge))
