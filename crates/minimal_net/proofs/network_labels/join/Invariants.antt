use Rattle.std.proofs.Common.{◌≡◌, length}
use Rattle.network_words.specs.Edge.{edge_count}
use Rattle.minimal_net.specs.Searching.{Task, AreLabelsAt, AreShares}
use Rattle.minimal_net.proofs.Shares.{AreFirst}
use Rattle.minimal_net.proofs.network_labels.join.Given as goal

abbrev pub invariant-loop-edge : goal.invariant-loop-edge
invariant-loop-edge l = record {
  long : length l.labels.items ≡ l.edge;
  first : (t : Task) → l.edges ≡ edge_count t.nodes → AreShares t l.shares → AreFirst (AreLabelsAt t) l.labels.items;
}
