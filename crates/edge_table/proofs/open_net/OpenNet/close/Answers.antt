use Rattle.std.proofs.Common.{◌≡◌, ◌∙◌, take, refl, ap}
use Rattle.network_words.specs.Edge.{edge_count}
use Rattle.network_words.specs.Network.{Network}
use Rattle.edge_table.specs.Opening.{opening_of}
use Rattle.edge_table.proofs.Rules.{AreClosedWords-kept}
use Rattle.edge_table.proofs.open_net.OpenNet.close.Goals as goal

pub returns-clause-words : goal.returns-clause-words
returns-clause-words c =
    let o = opening_of c.self.inside.table.shared.key.views in
    let seat = c.pass.inside.seat in
    let final = c.close_with-closed.ensures.values.2 in
    let state = final.0 in
    let whole = rw (← c.self.view_is, ← c.pass.view_is) at c.requires.whole in
    let nodes : c.args.into.now.nodes ≡ o.nodes = rw (← c.self.view_is) at c.requires.nodes in
    let words : c.write_words.new.into.words ≡ take (edge_count o.nodes) state.words =
    ap (λ (net : Network). net.words) c.write_words.ensures ∙ (rw (nodes, final.2) refl) in
    rw (← c.self.view_is, ← c.pass.view_is)
    (AreClosedWords-kept o state seat.id seat.me.0 c.write_words.new.into.words final.1.0 final.1.1 c.pass.invariant.live whole words)
