use Rattle.std.proofs.Common.{◌≡◌}
use Rattle.edge_propagation.specs.Worklist.{set_of_bytes}
use Rattle.edge_propagation.proofs.pairs.join_bytes.Given as goal

abbrev pub invariant-loop-p : goal.invariant-loop-p
invariant-loop-p l = l.all ≡ set_of_bytes l.bytes l.p l.at
