use Rattle.std.proofs.Common.{◌≡◌, ◌≤◌, ◌*◌, ap, arith}
use Rattle.std.proofs.lemmas.Grind.{same_number_lists}
use Rattle.compose_fast.proofs.fast.entries_of.Goals as goal

pub returns : goal.returns
returns g c =
    let m = (g.C.Compose.algebra c.args.c.now) in
    let size = c.size-size.ensures.value in
    let square : c.size-size.result * c.size-size.result ≡ m.size * m.size = ap (λ n. n * n) size in
    let low : m.size * m.size ≤ c.loop-e.e = rw square at c.loop-e-test.false in
    let high : c.loop-e.e ≤ m.size * m.size = rw square at c.loop-e.auto.e-end in
    same_number_lists c.loop-e.entries.items m.table
    (omega (arith, c.loop-e.invariant.length_is, c.lawful.ensures.table.table_length))
    (λ k l. c.loop-e.invariant.each k (omega (arith, c.loop-e.invariant.length_is)))
