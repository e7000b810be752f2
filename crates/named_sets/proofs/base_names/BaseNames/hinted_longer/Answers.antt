use Rattle.std.proofs.Common.{◌≡◌, true, map, sym, ap, ◌∙◌, rules}
use Rattle.std.specs.String.{string_bytes}
use Rattle.calculus_table.specs.Names.{place_of}
use Rattle.calculus_table.proofs.PlacesOfNames.{place_of-found}
use Rattle.named_sets.specs.Named.{IsAt}
use Rattle.named_sets.proofs.base_names.BaseNames.hinted_longer.Goals as goal

pub returns-then-is_at-clause-value : goal.returns-then-is_at-clause-value
returns-then-is_at-clause-value c =
    let names = map string_bytes c.self.inside.names.now in
    let here : c.is_at.result ≡ true = search rules in
    let is : IsAt names c.from-hint.result c.args.name.now = c.is_at.ensures here in
    ap (place_of c.args.name.now) (sym c.self.view_is) ∙ place_of-found names c.args.name.now c.from-hint.result c.self.invariant.distinct is.same
