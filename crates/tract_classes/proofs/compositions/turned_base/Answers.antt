use Rattle.std.proofs.Common.{◌^◌, sym, arith}
use Rattle.tract_classes.proofs.TurnedSets.{turned-empty, converse-beyond}
use Rattle.tract_classes.proofs.compositions.turned_base.Goals as goal

pub returns-then-r-size : goal.returns-then-r-size
returns-then-r-size g c =
    let m = g.C.Compose.algebra c.args.c.now in
    sym (turned-empty m c.args.b (2 ^ c.args.r) c.size.ensures.calculus.table (converse-beyond m c.args.r (omega (arith, c.size.ensures.value, c.if-r-size.true))))
