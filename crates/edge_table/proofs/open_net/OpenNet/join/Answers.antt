use Rattle.std.proofs.Common.{◌∙◌, ℕ, sym, ap, subst, arith}
use Rattle.std.specs.Prelude.{IsTrue}
use Rattle.atomic_table.specs.Table.{Me}
use Rattle.edge_table.specs.Opening.{opening_of}
use Rattle.edge_table.specs.declared.sight.Sight.{Sight}
use Rattle.edge_table.proofs.Rules.{some-padded}
use Rattle.edge_table.proofs.Steps.{joins, seat_weighs}
use Rattle.edge_table.proofs.Passes.{IsPass-joined}
use Rattle.edge_table.proofs.open_net.OpenNet.join.Goals as goal

pub join_seat-requires : goal.join_seat-requires
join_seat-requires c =
    let table = c.self.inside.table.shared in
    let o = opening_of table.key.views in
    let first = rw (← c.self.view_is, ← c.a.view_is) at c.requires.first in
    let second = rw (← c.self.view_is, ← c.b.view_is) at c.requires.second in (
      first.id,
      second.id,
      c.b.invariant.carries,
      omega (arith, c.self.invariant.words, some-padded o.words),
      joins o c.a.inside.seat.id c.b.inside.seat.id c.a.inside.seat.me.0 c.b.inside.seat.me.0 c.a.invariant.live c.b.invariant.live,
    )

pub load-word-requires : goal.load-word-requires
load-word-requires c =
    let table = c.self.inside.table.shared in
    let o = opening_of table.key.views in
    let first = rw (← c.self.view_is, ← c.a.view_is) at c.requires.first in
    let joined = c.join_seat.ensures.2 in
    let seat = c.join_seat.new.seat in (
      c.join_seat.ensures.0 ∙ first.id,
      omega (arith, c.self.invariant.words, some-padded o.words),
      seat_weighs o table.table_id.slots seat.id seat.me (ap (λ (me : Me ℕ Sight). me.1) joined ∙ c.a.invariant.carries)
          (subst (λ (me : Me ℕ Sight). IsTrue me.0.actor.is_live) (sym joined) c.a.invariant.live),
    )

pub invariant_of-result : goal.invariant_of-result
invariant_of-result c =
    let first = rw (← c.self.view_is, ← c.a.view_is) at c.requires.first in
    let second = rw (← c.self.view_is, ← c.b.view_is) at c.requires.second in
    IsPass-joined c.a.inside.weight c.b.inside.weight c.a.inside.nodes c.a.inside.full c.b.inside.nodes c.b.inside.full c.a.inside.seat.table_id c.b.inside.seat.table_id c.load-word.new.seat.table_id
    c.a.inside.seat.me c.b.inside.seat.me c.load-word.new.seat.me c.a.invariant c.b.invariant (second.nodes ∙ sym first.nodes) (second.full ∙ sym first.full)
    (c.load-word.ensures.2.same ∙ c.join_seat.ensures.2)
