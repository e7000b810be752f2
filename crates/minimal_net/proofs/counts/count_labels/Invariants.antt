use Rattle.std.proofs.Common.{take, ◌*◌, ◌^◌}
use Rattle.minimal_net.proofs.Counting.{AreCounts, AreSmall}
use Rattle.minimal_net.proofs.counts.count_labels.Given as goal

abbrev pub invariant-loop-edge : goal.invariant-loop-edge
invariant-loop-edge l = record {
  counts : AreCounts (take l.edge-index l.labels) l.counts;
  small : AreSmall (l.edge-index * 2 ^ 32) l.counts;
}
