use Rattle.network_words.specs.Edge.{edge_count}
use Rattle.edge_table.specs.Opening.{IsPassOf}
use Rattle.edge_table.proofs.Passes.{IsRefreshed}
use Rattle.edge_table.proofs.open_net.OpenNet.refresh.Given as goal

abbrev pub invariant-loop-edge : goal.invariant-loop-edge
invariant-loop-edge l = record {
  pass : IsPassOf l.self l.pass;
  sofar : IsRefreshed l.fn.pass l.pass l.snap (edge_count l.self.opening.nodes) l.edge;
}
