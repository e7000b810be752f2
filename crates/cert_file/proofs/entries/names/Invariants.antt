use Rattle.std.proofs.Common.{◌≡◌, map, take, Ok}
use Rattle.std.specs.String.{string_bytes}
use Rattle.serde_json.specs.View.{view}
use Rattle.cert_file.specs.Parts.{values, name_of}
use Rattle.cert_file.proofs.entries.names.Given as goal

abbrev pub invariant-loop-index : goal.invariant-loop-index
invariant-loop-index l = values name_of (map view (take l.index l.entries)) ≡ Ok (map string_bytes l.list.items)
