use Rattle.std.proofs.Common.{arith}
use Rattle.edge_table.specs.Opening.{opening_of}
use Rattle.edge_table.proofs.Rules.{some-padded}
use Rattle.edge_table.proofs.Steps.{splits}
use Rattle.edge_table.proofs.open_net.OpenNet.cut.Goals as goal

pub split_seat-other-requires : goal.split_seat-other-requires
split_seat-other-requires g c =
    let table = c.self.inside.table.shared in
    let o = opening_of table.key.views in
    let own = rw (← c.self.view_is, ← c.pass.view_is) at c.requires.pass in
    let rest = rw (← c.pass.view_is) at c.requires.rest in
    let seat = c.pass.inside.seat in (
      own.id,
      omega (arith, c.self.invariant.words, some-padded o.words),
      splits o seat.id g.G.Given.weight seat.me.0 c.pass.invariant.live (omega (arith, c.requires.weight, c.requires.some)) (omega (arith, c.requires.weight, rest)),
    )
