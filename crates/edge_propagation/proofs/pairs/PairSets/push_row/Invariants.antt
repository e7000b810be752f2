use Rattle.edge_propagation.proofs.Starts.{IsRowBegun}
use Rattle.edge_propagation.proofs.pairs.PairSets.push_row.Given as goal

abbrev pub invariant-loop-j : goal.invariant-loop-j
invariant-loop-j l = IsRowBegun l.initial.self l.self l.full l.i l.j
