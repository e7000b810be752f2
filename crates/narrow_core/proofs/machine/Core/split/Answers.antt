use Rattle.std.proofs.Common.{◌≡◌, ◌<◌, length, [], ◌∷◌, ◌++◌, rules}
use Rattle.std.proofs.lemmas.Option.{slice_get_within}
use Rattle.narrow_core.proofs.Cores.{core-splits}
use Rattle.narrow_core.proofs.Steps.{splits}
use Rattle.narrow_core.proofs.machine.Core.split.Goals as goal

pub invariant_of-self-2 : goal.invariant_of-self-2
invariant_of-self-2 c =
    let actors = c.self.inside.actors.items in
    let may = rw (← c.self.view_is) at c.requires in
    let below : c.args.actor < length actors = slice_get_within actors c.args.actor may.live.actor may.live.live.is_there in
    let items : c.push.new.self.items ≡ actors ++ c.in_ok-new.new ∷ [] = search rules in
    let step = splits c.self.inside.net c.self.inside.opening.items c.self.inside.opening_weight actors c.push.new.self.items c.args.actor c.args.left
    c.index.result.now c.in_ok-new.new c.index_mut.result.now c.give.new.self below c.index.ensures c.in_ok-new.ensures items c.index_mut.ensures.value c.give.ensures in
    record { core = core-splits c.args.actor c.args.left _ _ c.self.invariant.core may step; fits = c.self.invariant.fits }

pub returns-clause-split : goal.returns-clause-split
returns-clause-split c =
    let actors = c.self.inside.actors.items in
    let may = rw (← c.self.view_is) at c.requires in
    let below : c.args.actor < length actors = slice_get_within actors c.args.actor may.live.actor may.live.live.is_there in
    let items : c.push.new.self.items ≡ actors ++ c.in_ok-new.new ∷ [] = search rules in
    rw (← c.self.view_is) (splits c.self.inside.net c.self.inside.opening.items c.self.inside.opening_weight actors c.push.new.self.items c.args.actor c.args.left
    c.index.result.now c.in_ok-new.new c.index_mut.result.now c.give.new.self below c.index.ensures c.in_ok-new.ensures items c.index_mut.ensures.value c.give.ensures)
