use Rattle.std.proofs.Common.{◌-◌, ◌≤◌}
use Rattle.network_words.specs.Edge.{EdgeOf}
use Rattle.edge_propagation.proofs.edges.nodes_of_edge.Given as goal

abbrev pub invariant-loop-i : goal.invariant-loop-i
invariant-loop-i l = (d : EdgeOf l.nodes l.edge) → l.i ≤ d.first

abbrev pub decreases-loop-i : goal.decreases-loop-i
decreases-loop-i l = l.nodes - l.i
