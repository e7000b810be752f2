use Rattle.std.proofs.Common.{◌<◌, length, sym, ap, ◌∙◌, Some, arith}
use Rattle.std.specs.String.{string_bytes}
use Rattle.std.proofs.lemmas.List.{length-map}
use Rattle.calculus_table.proofs.PlacesOfNames.{name_read, equal_names}
use Rattle.named_sets.proofs.base_names.is_at.Goals as goal

pub returns-then-place-names : goal.returns-then-place-names
returns-then-place-names c = λ same.
    let names = c.args.names.now in
    let below : c.args.place < length names = omega arith in
    let all = length-map names string_bytes in
    record {
      below = omega (arith, all);
      same = name_read names c.args.place c.index-names-place.result below c.index-names-place.is
          ∙ ap Some (sym c.as_bytes.ensures.value ∙ equal_names c.as_bytes.result.now c.args.name.now c.eq.result c.eq.ensures same);
    }
