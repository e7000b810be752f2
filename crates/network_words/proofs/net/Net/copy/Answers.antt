use Rattle.std.proofs.Common.{rules, ◌≡◌, ◌∙◌, map, subst, sym}
use Rattle.std.specs.String.{string_bytes}
use Rattle.std.proofs.lemmas.List.Elements.{same_from_all_zip}
use Rattle.network_words.specs.Network.{IsShaped}
use Rattle.network_words.proofs.Copies.{names_copied, network_copied}
use Rattle.network_words.proofs.net.Net.copy.Goals as goal

pub invariant_of-result : goal.invariant_of-result
invariant_of-result c =
    let words : c.in-Ok.words.items ≡ c.self.inside.words.items = search (rules, same_from_all_zip) in
    let names : map string_bytes c.in-Ok-clone.names.keys ≡ map string_bytes c.self.inside.names.keys =
    names_copied _ c.self.inside.names.keys c.in-Ok-clone.names.keys c.in-Ok-clone.ensures.cases (λ x y r. r) in
    subst IsShaped (sym (network_copied c.self.inside.nodes c.self.inside.full _ _ _ _ words names)) c.self.invariant

pub returns : goal.returns
returns c =
    let words : c.in-Ok.words.items ≡ c.self.inside.words.items = search (rules, same_from_all_zip) in
    let names : map string_bytes c.in-Ok-clone.names.keys ≡ map string_bytes c.self.inside.names.keys =
    names_copied _ c.self.inside.names.keys c.in-Ok-clone.names.keys c.in-Ok-clone.ensures.cases (λ x y r. r) in
    network_copied c.self.inside.nodes c.self.inside.full _ _ _ _ words names ∙ c.self.view_is
