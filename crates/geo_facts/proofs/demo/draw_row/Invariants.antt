use Rattle.std.proofs.Common.{◌≡◌, ◌≤◌, ◌+◌, ◌*◌, ℕ, length}
use Rattle.network_words.specs.Edge.{edge_at}
use Rattle.geo_facts.specs.Demo.{AreDemoRings, IsDemoTo}
use Rattle.geo_facts.proofs.demo.draw_row.Given as goal

abbrev pub invariant-loop-j : goal.invariant-loop-j
invariant-loop-j l = record {
  rest : l.net ≡ record l.fn.net { words = l.net.words };
  length_is : length l.net.words ≡ length l.fn.net.words;
  few : l.kept ≤ 256 * l.i + l.j;
  drawn : (seed : ℕ) → AreDemoRings seed l.fn.net.nodes l.rings →
      IsDemoTo seed l.fn.net.nodes l.fn.draws.state l.fn.net.words l.fn.count (edge_at l.fn.net.nodes l.i (l.i + 1)) →
      IsDemoTo seed l.fn.net.nodes l.draws.state l.net.words l.kept (edge_at l.fn.net.nodes l.i l.j);
}
