use Rattle.std.proofs.Common.{◌≡◌, map, drop}
use Rattle.std.specs.List.{list_all}
use Rattle.std.specs.String.{string_bytes}
use Rattle.qsr_lex.specs.Names.{is_name}
use Rattle.named_sets.proofs.base_names.are_names.Given as goal

abbrev pub invariant-loop-name : goal.invariant-loop-name
invariant-loop-name l = list_all is_name (map string_bytes (drop l.name-index l.names)) ≡ list_all is_name (map string_bytes l.names)
