use Rattle.std.proofs.Common.{◌<◌, arith, rules, sym, ap, ◌∙◌}
use Rattle.std.specs.Prelude.{slice_index}
use Rattle.network_words.specs.Edge.{edge_count}
use Rattle.stepped_networks.proofs.stepped.Stepped.is_last_empty.Goals as goal

pub returns : goal.returns
returns c =
    let e = c.in-Some-last.last.now.edge in
    let below : e < edge_count c.self.inside.net.nodes = search rules in
    λ yes. (e, rw (← c.self.view_is) (omega (arith, c.words.ensures.length_is)), rw (← c.self.view_is) (sym (ap (λ xs. slice_index xs e) c.words.ensures.value) ∙ search rules))
