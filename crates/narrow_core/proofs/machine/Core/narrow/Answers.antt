use Rattle.std.proofs.Common.{◌≡◌, ◌<◌, ℕ, List, length, ◌∙◌, ap}
use Rattle.std.proofs.lemmas.Option.{slice_get_within}
use Rattle.calculus_table.specs.Algebra.{Algebra}
use Rattle.network_words.specs.Edge.{edge_between}
use Rattle.network_words.specs.Network.{relation_between}
use Rattle.narrow_core.proofs.Cores.{core-narrows}
use Rattle.narrow_core.proofs.Steps.{narrows}
use Rattle.narrow_core.proofs.machine.Core.narrow.Goals as goal

seen_same : (m : Algebra) (n n' : ℕ) (seen seen' : List ℕ) (i j : ℕ) → n ≡ n' → seen ≡ seen' → relation_between m n seen i j ≡ relation_between m n' seen' i j
seen_same m n n' seen seen' i j p q = ap (λ x. relation_between m x seen i j) p ∙ ap (λ xs. relation_between m n' xs i j) q

pub invariant_of-self : goal.invariant_of-self
invariant_of-self g c =
    let m = g.C.Compose.algebra c.args.c.now in
    let net = c.self.inside.net in
    let actors = c.self.inside.actors.items in
    let a = c.index_mut-actor.result.now in
    let may = rw (← c.self.view_is) at c.requires.allowed in
    let below : c.args.actor < length actors = slice_get_within actors c.args.actor may.live.actor may.live.live.is_there in
    let nodes : c.nodes-nodes.result ≡ net.nodes = c.nodes-nodes.ensures.value in
    let edge = c.edge_between-edge.ensures.value ∙ ap (λ n. edge_between n c.args.i c.args.k) nodes in
    let first = c.relation_between-first.ensures.value ∙ seen_same m c.nodes-nodes.result net.nodes c.seen.result.now a.seen c.args.i c.args.j nodes c.seen.ensures in
    let second = c.relation_between-second.ensures.value ∙ seen_same m c.nodes-nodes.result net.nodes c.seen-2.result.now a.seen c.args.j c.args.k nodes c.seen-2.ensures in
    let step = narrows m net c.narrow.new.self c.self.inside.opening.items c.self.inside.opening_weight actors
    c.args.actor c.args.i c.args.j c.args.k c.edge_between-edge.result c.relation_between-first.result c.relation_between-second.result c.compose.result c.word.result
    a c.see.new.self below c.index_mut-actor.ensures.value first second c.compose.ensures.value c.narrow.ensures edge c.word.ensures c.see.ensures in
    record { core = core-narrows m c.args.actor c.args.i c.args.j c.args.k _ _ c.self.invariant.core may step; fits = c.self.invariant.fits }

pub returns : goal.returns
returns g c =
    let m = g.C.Compose.algebra c.args.c.now in
    let net = c.self.inside.net in
    let actors = c.self.inside.actors.items in
    let a = c.index_mut-actor.result.now in
    let may = rw (← c.self.view_is) at c.requires.allowed in
    let below : c.args.actor < length actors = slice_get_within actors c.args.actor may.live.actor may.live.live.is_there in
    let nodes : c.nodes-nodes.result ≡ net.nodes = c.nodes-nodes.ensures.value in
    let edge = c.edge_between-edge.ensures.value ∙ ap (λ n. edge_between n c.args.i c.args.k) nodes in
    let first = c.relation_between-first.ensures.value ∙ seen_same m c.nodes-nodes.result net.nodes c.seen.result.now a.seen c.args.i c.args.j nodes c.seen.ensures in
    let second = c.relation_between-second.ensures.value ∙ seen_same m c.nodes-nodes.result net.nodes c.seen-2.result.now a.seen c.args.j c.args.k nodes c.seen-2.ensures in
    rw (← c.self.view_is) (narrows m net c.narrow.new.self c.self.inside.opening.items c.self.inside.opening_weight actors
    c.args.actor c.args.i c.args.j c.args.k c.edge_between-edge.result c.relation_between-first.result c.relation_between-second.result c.compose.result c.word.result
    a c.see.new.self below c.index_mut-actor.ensures.value first second c.compose.ensures.value c.narrow.ensures edge c.word.ensures c.see.ensures)
