use Rattle.std.proofs.Common.{◌≡◌, map, take}
use Rattle.serde_json.specs.View.{view}
use Rattle.cert_file.specs.Written.{node_json, IsTreeOfNumbers}
use Rattle.cert_file.proofs.writing.tree_value.Given as goal

abbrev pub invariant-loop-node : goal.invariant-loop-node
invariant-loop-node l = record {
  values : map view l.values.items ≡ map (node_json l.fn.version) (take l.node-index l.nodes);
  numbers : IsTreeOfNumbers l.fn.version (take l.node-index l.nodes);
}
