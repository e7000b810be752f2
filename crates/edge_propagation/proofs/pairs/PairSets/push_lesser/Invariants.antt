use Rattle.std.proofs.Common.{◌≡◌}
use Rattle.edge_propagation.specs.Worklist.{IsBegun}
use Rattle.edge_propagation.proofs.pairs.PairSets.push_lesser.Given as goal

abbrev pub invariant-loop-i : goal.invariant-loop-i
invariant-loop-i l = record {
  rest : l.self ≡ record l.initial.self { queued = l.self.queued };
  begun : IsBegun l.self l.full l.i;
}
