-- The network of the facts so far.
use Rattle.std.proofs.Common.{◌≡◌, take}
use Rattle.network_words.specs.Facts.{IsNetworkOfFacts}
use Rattle.session_versions.specs.HeldFacts.{facts_of}
use Rattle.session_run.proofs.opening.network_of.Given as goal

abbrev pub invariant-loop-held : goal.invariant-loop-held
invariant-loop-held g l = record {
  nodes : l.net.nodes ≡ l.nodes;
  words : IsNetworkOfFacts (g.C.Compose.algebra l.c) l.nodes (facts_of (take l.held-index l.helds)) l.net.words;
}
