use Rattle.std.proofs.Common.{◌≡◌, ◌≢◌, ◌<◌, ◌%◌, Some, map, length, slice_get, slice_index, sym, ap, ◌∙◌, subst, rules}
use Rattle.std.specs.String.{string_bytes}
use Rattle.std.proofs.lemmas.Option.{slice_get_within}
use Rattle.calculus_table.specs.Names.{place_of}
use Rattle.calculus_table.proofs.PlacesOfNames.{place_of-found}
use Rattle.named_sets.proofs.Keys.{name_of_key}
use Rattle.named_sets.proofs.base_names.BaseNames.hinted.Goals as goal

pub returns-then-self-hint-clause-value : goal.returns-then-self-hint-clause-value
returns-then-self-hint-clause-value c =
    let names = map string_bytes c.self.inside.names.now in
    let name = c.args.name.now in
    let place = c.from-hint.result % 64 in
    let key = c.key_of-key.result in
    let some : key ≢ 0 = search rules in
    let stands : slice_index c.self.inside.hints.keys place ≡ key = search rules in
    let there : slice_get names place ≡ Some name = name_of_key names c.self.inside.hints.keys place key name c.self.invariant.keyed stands some (c.key_of-key.ensures some) in
    ap (place_of name) (sym c.self.view_is) ∙ place_of-found names name place c.self.invariant.distinct there

pub returns-then-self-hint-clause-below : goal.returns-then-self-hint-clause-below
returns-then-self-hint-clause-below c =
    let names = map string_bytes c.self.inside.names.now in
    let name = c.args.name.now in
    let place = c.from-hint.result % 64 in
    let key = c.key_of-key.result in
    let some : key ≢ 0 = search rules in
    let stands : slice_index c.self.inside.hints.keys place ≡ key = search rules in
    let there : slice_get names place ≡ Some name = name_of_key names c.self.inside.hints.keys place key name c.self.invariant.keyed stands some (c.key_of-key.ensures some) in
    subst (λ bases. place < length bases) c.self.view_is (slice_get_within names place name there)
