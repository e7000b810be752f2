use Rattle.std.proofs.Common.{◌≡◌, map, take, length, Ok, All}
use Rattle.serde_json.specs.View.{view}
use Rattle.split_trees.specs.Tree.{AreFewSteps}
use Rattle.cert_file.specs.Parts.{values}
use Rattle.cert_file.specs.Nodes.{node_of}
use Rattle.cert_file.proofs.nodes.nodes.Given as goal

abbrev pub invariant-loop-index : goal.invariant-loop-index
invariant-loop-index l = record {
  values : values (node_of l.fn.version) (map view (take l.index l.entries)) ≡ Ok l.list.items;
  steps : All (λ node. AreFewSteps node.steps) l.list.items;
  count : length l.list.items ≡ l.index;
}
