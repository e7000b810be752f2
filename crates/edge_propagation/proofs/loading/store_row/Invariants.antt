use Rattle.std.proofs.Common.{◌≡◌, length}
use Rattle.edge_propagation.proofs.Loads.{IsRowStored}
use Rattle.edge_propagation.proofs.loading.store_row.Given as goal

abbrev pub invariant-loop-j : goal.invariant-loop-j
invariant-loop-j l = record {
  rest : l.net ≡ record l.initial.net { words = l.net.words };
  length_is : length l.net.words ≡ length l.initial.net.words;
  stored : IsRowStored l.initial.net.nodes l.net.words l.work l.i l.j;
}
