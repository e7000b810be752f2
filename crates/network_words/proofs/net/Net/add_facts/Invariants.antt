use Rattle.std.proofs.Common.{◌≡◌, drop}
use Rattle.network_words.specs.Facts.{narrowed_by}
use Rattle.network_words.proofs.net.Net.add_facts.Given as goal

abbrev pub invariant-loop-fact : goal.invariant-loop-fact
invariant-loop-fact g l = record {
  nodes : l.self.nodes ≡ l.fn.self.nodes;
  full : l.self.full ≡ l.fn.self.full;
  names : l.self.names ≡ l.fn.self.names;
  words : narrowed_by (g.C.Compose.algebra l.c) l.self.nodes l.self.words (drop l.fact-index l.facts) ≡ narrowed_by (g.C.Compose.algebra l.c) l.fn.self.nodes l.fn.self.words l.facts;
}
