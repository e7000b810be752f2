use Rattle.std.proofs.Common.{◌≡◌, length, map, sym, ap, subst, ◌∙◌}
use Rattle.std.specs.String.{string_bytes}
use Rattle.std.proofs.lemmas.List.{length-map}
use Rattle.calculus_table.specs.Calculus.{AreDistinct}
use Rattle.network_words.specs.Network.{Network}
use Rattle.network_words.proofs.net.Net.set_names.Goals as goal

pub invariant_of-self : goal.invariant_of-self
invariant_of-self c =
    let was = c.self.invariant in
    let numbered = c.in_ok-self-inside.field-0.keys in
    let same : numbered ≡ c.args.names.items = c.in_ok-self-inside.ensures.ok in
    record {
      some = was.some;
      bounded = was.bounded;
      length_is = was.length_is;
      named = λ _. length-map numbered string_bytes ∙ ap length same ∙ c.requires ∙ ap (λ (net : Network). net.nodes) (sym c.self.view_is);
      distinct = subst (λ names. AreDistinct (map string_bytes names)) (sym same) c.in_ok-self-inside.ensures.distinct;
    }
