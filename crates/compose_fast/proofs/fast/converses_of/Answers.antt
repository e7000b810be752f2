use Rattle.std.proofs.Common.{arith}
use Rattle.std.proofs.lemmas.Grind.{same_number_lists}
use Rattle.compose_fast.proofs.fast.converses_of.Goals as goal

pub returns : goal.returns
returns g c =
    same_number_lists c.loop-r.converses.items (g.C.Compose.algebra c.args.c.now).converses
    (omega (arith, c.loop-r.invariant.length_is, c.lawful.ensures.table.converses_length, c.size-size.ensures.value))
    (λ k l. c.loop-r.invariant.each k (omega (arith, c.loop-r.invariant.length_is)))
