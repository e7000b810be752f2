use Rattle.std.proofs.Common.{ℕ, ◌<◌}
use Rattle.edge_propagation.specs.Worklist.{IsQueued}
use Rattle.edge_propagation.proofs.pairs.PairSets.first_in_row.Given as goal

abbrev pub invariant-loop-j : goal.invariant-loop-j
invariant-loop-j l = (q : ℕ) → l.i < q → q < l.j → ¬ IsQueued l.self l.i q
