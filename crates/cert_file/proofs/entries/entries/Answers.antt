use Rattle.std.proofs.Common.{map, Ok, ap, sym, ◌∙◌}
use Rattle.serde_json.specs.View.{view}
use Rattle.cert_file.proofs.Lists.{entries-array}
use Rattle.cert_file.proofs.entries.entries.Goals as goal

pub returns-in-Some-clause-ok : goal.returns-in-Some-clause-ok
returns-in-Some-clause-ok c =
    entries-array (view c.args.value.now) c.in-Some.entries.now.items c.in-Some.ensures
    ∙ ap (λ vs. Ok (map view vs)) (sym c.as_slice.ensures.value)
