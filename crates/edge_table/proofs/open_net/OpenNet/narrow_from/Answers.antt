use Rattle.std.proofs.Common.{◌∙◌, ap, sym, subst}
use Rattle.calculus_table.specs.Algebra.{Algebra}
use Rattle.calculus_table.specs.Composition.{full_of}
use Rattle.network_words.specs.Edge.{edge_between}
use Rattle.network_words.specs.Network.{IsNetwork}
use Rattle.edge_table.specs.Opening.{OpenState, PassState}
use Rattle.edge_table.proofs.Passes.{seen-network, changed-pass, along-snap, Narrows-closed}
use Rattle.edge_table.proofs.open_net.OpenNet.narrow_from.Goals as goal

pub returns-clause-less : goal.returns-clause-less
returns-clause-less g c =
    let m = g.C.Compose.algebra c.args.c.now in
    let nodes = c.self.invariant.nodes_are ∙ ap (λ (t : OpenState). t.opening.nodes) c.self.view_is in
    let own = rw (← c.pass.view_is) at c.requires.pass in
    let full = own.full ∙ ap (λ (a : Algebra). full_of a) (sym c.requires.calculus) in
    let net = subst (λ (p : PassState). IsNetwork m p.nodes p.actor.seen) c.pass.view_is
    (seen-network m c.pass.inside.nodes c.pass.inside.full c.pass.inside.seat.me.0.actor full c.pass.invariant.proper) in
    let edge = c.edge_between.ensures.value ∙ ap (λ n. edge_between n c.args.i c.args.k) nodes in
    changed-pass m c.args.self.now.opening.nodes c.args.i c.args.k c.edge_between.result c.narrow_by-word.result c.args.pass.now c.narrow_by-word.new.pass c.args.snap.now c.take.result
    c.lawful.ensures c.requires.pass.nodes c.narrow_by-word.ensures.pass.nodes net c.narrow_by-word.ensures.within c.narrow_by-word.ensures.shown edge c.requires.snap c.take.ensures.changed

pub returns-clause-closed : goal.returns-clause-closed
returns-clause-closed g c =
    let m = g.C.Compose.algebra c.args.c.now in
    let nodes = c.self.invariant.nodes_are ∙ ap (λ (t : OpenState). t.opening.nodes) c.self.view_is in
    let along = along-snap m c.self.inside.nodes c.args.pass.now.nodes c.args.i c.args.j c.args.k c.compose-along.result c.args.snap.now c.args.pass.now.actor.seen
    (nodes ∙ sym c.requires.pass.nodes) c.requires.snap c.compose-along.ensures.value in
    Narrows-closed m c.args.self.now.opening.nodes c.args.i c.args.j c.args.k c.compose-along.result c.narrow_by-word.result c.args.pass.now c.narrow_by-word.new.pass c.lawful.ensures c.requires.proper
    c.requires.pass.nodes c.narrow_by-word.ensures.narrows along c.compose-along.ensures.within c.narrow_by-word.ensures.shown c.narrow_by-word.ensures.along
