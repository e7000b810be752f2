use Rattle.std.proofs.Common.{◌≡◌, ◌∷◌, reverse}
use Rattle.std.specs.Prelude.{All}
use Rattle.split_trees.specs.Tree.{AreFewSteps}
use Rattle.refutation.specs.Tracings.{IsTracing}
use Rattle.refutation.proofs.tracing.traced_nodes.Given as goal

abbrev pub invariant-loop-x : goal.invariant-loop-x
invariant-loop-x g l = record {
  tracing : IsTracing (g.C.Compose.algebra l.c) l.net.nodes l.net.words l.nodes l.x l.traced.items (reverse l.way.items) (l.networks.top ∷ l.networks.under);
  algebra : l.networks.algebra ≡ g.C.Compose.algebra l.c;
  nodes : l.networks.nodes ≡ l.net.nodes;
  few : All (λ node. AreFewSteps node.steps) l.traced.items;
}
