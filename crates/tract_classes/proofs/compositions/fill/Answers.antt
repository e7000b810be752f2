use Rattle.std.proofs.Common.{set, arith}
use Rattle.std.proofs.lemmas.List.{get_or-set_same}
use Rattle.tract_classes.proofs.TurnedSets.{IsTableBelow-none, IsTableBelow-more}
use Rattle.tract_classes.proofs.compositions.fill.Goals as goal

pub loop-k-init : goal.loop-k-init
loop-k-init g c =
    let table = c.args.table.now in
    IsTableBelow-none (g.C.Compose.algebra c.args.c.now) c.args.b c.args.first (set table 0 0) c.lawful.ensures.table
    (get_or-set_same table 0 0 0 (omega (arith, c.told-table)))

pub loop-k-preserved : goal.loop-k-preserved
loop-k-preserved g c =
    IsTableBelow-more (g.C.Compose.algebra c.args.c.now) c.args.b c.args.first c.loop-k.k c.loop-k.table c.add_base.new.table c.turned_base.result
    c.lawful.ensures.table c.loop-k.invariant c.turned_base.ensures c.add_base.ensures.before c.add_base.ensures.here
