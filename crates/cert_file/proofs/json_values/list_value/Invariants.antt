use Rattle.std.proofs.Common.{◌≡◌, map, take, All}
use Rattle.serde_json.specs.View.{view}
use Rattle.cert_file.proofs.json_values.list_value.Given as goal

abbrev pub invariant-loop-item : goal.invariant-loop-item
invariant-loop-item g l = record {
  values : map view l.values.items ≡ map g.T.ToJson.json (take l.item-index l.list);
  numbers : All g.T.ToJson.fits (take l.item-index l.list);
}
