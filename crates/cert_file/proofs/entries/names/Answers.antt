use Rattle.std.proofs.Common.{◌≡◌, ◌∷◌, ◌++◌, [], map, Ok, ap, sym, ◌∙◌, arith, rules}
use Rattle.std.specs.String.{string_bytes}
use Rattle.std.proofs.lemmas.List.{map_push}
use Rattle.cert_file.specs.Parts.{name_of}
use Rattle.cert_file.proofs.Lists.{values-more, values-stop, values-all, list_of-entries}
use Rattle.cert_file.proofs.entries.names.Goals as goal

pub returns-in_default-clause-fault : goal.returns-in_default-clause-fault
returns-in_default-clause-fault c = λ _.
    list_of-entries name_of _ _ c.in_ok-entries.ensures.ok
    ∙ values-stop name_of c.in_ok-entries.entries.now c.loop-index.index c.index-entries-index.result (map string_bytes c.loop-index.list.items) c.in_default.field-0
    (omega arith) c.index-entries-index.is c.loop-index.invariant c.in_default.ensures

pub loop-index-preserved : goal.loop-index-preserved
loop-index-preserved c =
    let owned = c.in-Ok-from_str.owned in
    let pushed : c.push.new.self.items ≡ c.loop-index.list.items ++ owned ∷ [] = search rules in
    values-more name_of c.in_ok-entries.entries.now c.loop-index.index c.index-entries-index.result (map string_bytes c.loop-index.list.items) c.in-Ok.name.now
    (omega arith) c.index-entries-index.is c.loop-index.invariant c.in-Ok.ensures
    ∙ ap (λ x. Ok (map string_bytes c.loop-index.list.items ++ x ∷ [])) (sym c.in-Ok-from_str.ensures.ok)
    ∙ ap Ok (sym (ap (map string_bytes) pushed ∙ map_push string_bytes c.loop-index.list.items owned))

pub returns-clause-ok : goal.returns-clause-ok
returns-clause-ok c =
    list_of-entries name_of _ _ c.in_ok-entries.ensures.ok
    ∙ values-all name_of c.in_ok-entries.entries.now c.loop-index.index (map string_bytes c.loop-index.list.items) c.loop-index-test.false c.loop-index.invariant
