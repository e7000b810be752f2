use Rattle.std.proofs.Common.{◌≡◌, length, map, arith}
use Rattle.std.specs.String.{string_bytes}
use Rattle.std.proofs.lemmas.List.{length-map}
use Rattle.calculus_load.proofs.Shapes.{HasShape-fresh}
use Rattle.calculus_load.proofs.draft.Draft.new.Goals as goal

pub invariant_of-result : goal.invariant_of-result
invariant_of-result c =
    let names = c.args.names in
    let same : length (map string_bytes names.items) ≡ length names.items = length-map names.items string_bytes in
    HasShape-fresh (map string_bytes names.items) c.args.identity c.len-size.result c.in_ok-converses.converses.items c.in_ok-entries.entries.items
    (omega arith) (omega arith) (omega (arith, names.ok.0)) c.in_ok-converses.ensures c.in_ok-entries.ensures
