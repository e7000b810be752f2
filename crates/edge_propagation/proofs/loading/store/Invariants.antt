use Rattle.std.proofs.Common.{◌≡◌, length}
use Rattle.edge_propagation.specs.Propagation.{IsStored}
use Rattle.edge_propagation.proofs.loading.store.Given as goal

abbrev pub invariant-loop-i : goal.invariant-loop-i
invariant-loop-i l = record {
  rest : l.net ≡ record l.initial.net { words = l.net.words };
  length_is : length l.net.words ≡ length l.initial.net.words;
  stored : IsStored l.initial.net.nodes l.net.words l.work l.i;
}
