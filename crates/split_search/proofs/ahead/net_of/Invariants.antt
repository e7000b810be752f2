use Rattle.std.proofs.Common.{◌≡◌}
use Rattle.network_words.specs.Network.{IsNetwork}
use Rattle.split_search.proofs.ahead.net_of.Given as goal

abbrev pub invariant-loop-other : goal.invariant-loop-other
invariant-loop-other g l = record {
  network : IsNetwork (g.C.Compose.algebra l.c) l.nodes l.net.words;
  nodes : l.net.nodes ≡ l.nodes;
}
