use Rattle.std.proofs.Common.{◌<◌, length, ◌∙◌, ap}
use Rattle.std.proofs.lemmas.Option.{slice_get_within}
use Rattle.network_words.specs.Edge.{edge_between}
use Rattle.narrow_core.proofs.Cores.{core-asserts}
use Rattle.narrow_core.proofs.Steps.{asserts}
use Rattle.narrow_core.proofs.machine.Core.assert.Goals as goal

pub invariant_of-self-2 : goal.invariant_of-self-2
invariant_of-self-2 g c =
    let actors = c.self.inside.actors.items in
    let may = rw (← c.self.view_is) at c.requires.allowed in
    let edge = c.edge_between-edge.ensures.value ∙ ap (λ n. edge_between n c.args.fact.i c.args.fact.j) c.nodes.ensures.value in
    let below : c.args.actor < length actors = slice_get_within actors c.args.actor may.live.actor may.live.live.is_there in
    let step = asserts (g.C.Compose.algebra c.args.c.now) c.self.inside.net c.narrow.new.self c.self.inside.opening.items c.self.inside.opening_weight actors
    c.args.actor c.edge_between-edge.result c.word.result c.args.fact c.index_mut-actor.result.now c.state.new.self c.see.new.self below
    c.index_mut-actor.ensures.value c.in_ok-state.ensures.stated c.narrow.ensures edge c.word.ensures c.see.ensures in
    record { core = core-asserts (g.C.Compose.algebra c.args.c.now) c.args.actor c.args.fact _ _ c.self.invariant.core may step; fits = c.self.invariant.fits }

pub returns-clause-asserted : goal.returns-clause-asserted
returns-clause-asserted g c =
    let actors = c.self.inside.actors.items in
    let may = rw (← c.self.view_is) at c.requires.allowed in
    let edge = c.edge_between-edge.ensures.value ∙ ap (λ n. edge_between n c.args.fact.i c.args.fact.j) c.nodes.ensures.value in
    let below : c.args.actor < length actors = slice_get_within actors c.args.actor may.live.actor may.live.live.is_there in
    rw (← c.self.view_is) (asserts (g.C.Compose.algebra c.args.c.now) c.self.inside.net c.narrow.new.self c.self.inside.opening.items c.self.inside.opening_weight actors
    c.args.actor c.edge_between-edge.result c.word.result c.args.fact c.index_mut-actor.result.now c.state.new.self c.see.new.self below
    c.index_mut-actor.ensures.value c.in_ok-state.ensures.stated c.narrow.ensures edge c.word.ensures c.see.ensures)
