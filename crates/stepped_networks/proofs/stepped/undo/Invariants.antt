use Rattle.std.proofs.Common.{◌≡◌, ◌<◌, vec_len}
use Rattle.std.specs.Prelude.{All}
use Rattle.network_words.specs.Edge.{edge_count}
use Rattle.stepped_networks.specs.declared.stepped.Replaced.{Replaced}
use Rattle.stepped_networks.specs.Networks.{restored}
use Rattle.stepped_networks.proofs.stepped.undo.Given as goal

abbrev pub invariant-loop-last : goal.invariant-loop-last
invariant-loop-last l = record {
  rest : l.net ≡ record l.initial.net { words = l.net.words };
  edges : All (λ (r : Replaced). r.edge < edge_count l.net.nodes) l.trail.items;
  left : restored l.net.words l.trail.items ≡ restored l.initial.net.words l.initial.trail.items;
}

abbrev pub decreases-loop-last : goal.decreases-loop-last
decreases-loop-last l = vec_len l.trail
