use Rattle.std.proofs.Common.{◌≤◌}
use Rattle.network_words.specs.Edge.{edge_count}
use Rattle.edge_table.specs.Opening.{IsPassOf}
use Rattle.edge_table.proofs.Passes.{IsReadAgain}
use Rattle.edge_table.proofs.open_net.OpenNet.refresh_again.Given as goal

abbrev pub invariant-loop-edge : goal.invariant-loop-edge
invariant-loop-edge l = record {
  pass : IsPassOf l.self l.pass;
  sofar : IsReadAgain l.edge l.fn.pass l.pass l.snap l.less;
  bounded : l.edge ≤ edge_count l.self.opening.nodes;
}
