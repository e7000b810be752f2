use Rattle.std.proofs.Common.{◌≡◌, take, map}
use Rattle.std.specs.String.{string_bytes}
use Rattle.line_files.proofs.names.owned_names.Given as goal

abbrev pub invariant-loop-name : goal.invariant-loop-name
invariant-loop-name l = map string_bytes l.texts.items ≡ map (λ name. name.now) (take l.name-index l.names)
