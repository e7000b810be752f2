use Rattle.std.proofs.Common.{ℕ, ◌<◌}
use Rattle.edge_propagation.specs.Worklist.{IsIdle}
use Rattle.edge_propagation.proofs.pairs.PairSets.first_queued.Given as goal

abbrev pub invariant-loop-i : goal.invariant-loop-i
invariant-loop-i l = (q : ℕ) → q < l.i → IsIdle l.self q
