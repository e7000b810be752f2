use Rattle.std.proofs.Common.{◌≡◌, ◌≤◌, ◌+◌, ◌*◌, ℕ, length}
use Rattle.network_words.specs.Edge.{edge_at}
use Rattle.geo_facts.specs.Demo.{state, AreDemoRings, IsDemoTo}
use Rattle.geo_facts.proofs.demo.draw_relations.Given as goal

abbrev pub invariant-loop-i : goal.invariant-loop-i
invariant-loop-i l = record {
  rest : l.net ≡ record l.fn.net { words = l.net.words };
  length_is : length l.net.words ≡ length l.fn.net.words;
  few : l.count ≤ 256 * l.i;
  drawn : (seed : ℕ) → AreDemoRings seed l.fn.net.nodes l.rings → l.fn.draws.state ≡ state seed (4 * l.fn.net.nodes) →
      IsDemoTo seed l.fn.net.nodes l.draws.state l.net.words l.count (edge_at l.fn.net.nodes l.i (l.i + 1));
}
