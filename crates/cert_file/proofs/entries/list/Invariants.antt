use Rattle.std.proofs.Common.{◌≡◌, map, take, length, Ok}
use Rattle.serde_json.specs.View.{view}
use Rattle.cert_file.specs.Parts.{values}
use Rattle.cert_file.proofs.entries.list.Given as goal

abbrev pub invariant-loop-index : goal.invariant-loop-index
invariant-loop-index g l = record {
  values : values g.T.FromJson.of (map view (take l.index l.entries)) ≡ Ok l.list.items;
  count : length l.list.items ≡ l.index;
}
