use Rattle.std.proofs.Common.{arith}
use Rattle.slice_copy.proofs.Copies.{AreRowsOf-edges, AreRowsOf-none}
use Rattle.slice_copy.proofs.rows.rows_of.Goals as goal

pub returns-then-to-from : goal.returns-then-to-from
returns-then-to-from c = AreRowsOf-none _ _ _ c.if-to-from.true

pub returns : goal.returns
returns c =
    let f = c.nodes_of_edge-first.ensures in
    let l = c.nodes_of_edge-last.ensures in
    AreRowsOf-edges c.args.nodes c.args.from c.args.to _ _ _ _ (omega (arith, c.if-to-from.false)) f.order f.below l.order l.below f.edge (omega (arith, l.edge, c.if-to-from.false))
