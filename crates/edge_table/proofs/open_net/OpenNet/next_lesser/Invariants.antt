use Rattle.std.proofs.Common.{◌≡◌, ◌-◌, ◌≤◌, false}
use Rattle.edge_table.specs.Opening.{IsPassOf}
use Rattle.edge_table.proofs.Passes.{IsReadAgain}
use Rattle.edge_table.proofs.open_net.OpenNet.next_lesser.Given as goal

abbrev pub invariant-loop-edge : goal.invariant-loop-edge
invariant-loop-edge l = record {
  pass : IsPassOf l.self l.pass;
  sofar : IsReadAgain (l.edge - l.fn.from) l.fn.pass l.pass l.snap false;
  same : l.snap ≡ l.fn.snap;
  after : l.fn.from ≤ l.edge;
  bounded : l.edge - l.fn.from ≤ l.fn.to - l.fn.from;
}
