use Rattle.std.proofs.Common.{◌<◌, sym, subst, arith}
use Rattle.std.specs.Prelude.{bit_and}
use Rattle.calculus_table.specs.Rel.{IsWithin}
use Rattle.calculus_table.proofs.Sets.{IsWithin-meet_r}
use Rattle.network_words.specs.Edge.{edge_count, edge_between}
use Rattle.network_words.proofs.Pairs.{edge_between-lt}
use Rattle.edge_table.specs.Opening.{opening_of}
use Rattle.edge_table.proofs.Rules.{length-padded}
use Rattle.edge_table.proofs.Steps.{seat_asserts}
use Rattle.edge_table.proofs.Passes.{IsPass-states, proper-pass}
use Rattle.edge_table.proofs.open_net.OpenNet.state.Goals as goal

pub fetch_and-requires : goal.fetch_and-requires
fetch_and-requires g c =
    let table = c.self.inside.table.shared in
    let o = opening_of table.key.views in
    let fact = g.F.Stated.fact in
    let own = rw (← c.self.view_is, ← c.pass.view_is) at c.requires.pass in
    let proper = rw (← c.self.view_is) at c.requires.proper in
    let edge = rw (← c.self.view_is) at c.requires.edge in
    let operand = rw (← c.self.view_is) at c.requires.operand in
    let below : edge_between o.nodes fact.i fact.j < edge_count o.nodes = edge_between-lt o.nodes fact.i fact.j proper.pair in
    let seat = c.pass.inside.seat in (
      own.id,
      omega (arith, c.self.invariant.words, c.self.invariant.length_is, length-padded o.words, below, edge),
      seat_asserts o table.table_id.slots seat.id c.args.edge c.args.operand fact seat.me c.pass.invariant.carries c.pass.invariant.live proper edge operand,
    )

pub invariant_of-pass : goal.invariant_of-pass
invariant_of-pass g c =
    let own = rw (← c.self.view_is, ← c.pass.view_is) at c.requires.pass in
    let proper = rw (← c.self.view_is) at c.requires.proper in
    IsPass-states c.pass.inside.weight c.pass.inside.nodes c.pass.inside.full c.pass.inside.seat.table_id c.fetch_and.new.seat.table_id c.pass.inside.seat.me c.fetch_and.new.seat.me
    g.F.Stated.fact c.args.edge (bit_and c.fetch_and.result c.args.operand)
    (proper-pass c.pass.inside.nodes c.pass.inside.full (opening_of c.self.inside.table.shared.key.views) g.F.Stated.fact own.nodes own.full proper) c.pass.invariant c.fetch_and.ensures.2

pub returns-clause-within : goal.returns-clause-within
returns-clause-within g c =
    subst (λ x. IsWithin x c.args.operand) (sym c.fetch_and.ensures.2.shown) (IsWithin-meet_r c.fetch_and.result c.args.operand)
