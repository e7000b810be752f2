use Rattle.std.proofs.Common.{◌<◌, length}
use Rattle.std.proofs.lemmas.Option.{slice_get_within}
use Rattle.narrow_core.proofs.Cores.{core-reads}
use Rattle.narrow_core.proofs.Steps.{reads}
use Rattle.narrow_core.proofs.machine.Core.read.Goals as goal

pub invariant_of-self : goal.invariant_of-self
invariant_of-self c =
    let actors = c.self.inside.actors.items in
    let may = rw (← c.self.view_is) at c.requires in
    let below : c.args.actor < length actors = slice_get_within actors c.args.actor may.live.actor may.live.live.is_there in
    let step = reads c.self.inside.net c.self.inside.opening.items c.self.inside.opening_weight actors c.args.actor c.args.edge c.word.result
    c.index_mut.result.now c.see.new.self below c.index_mut.ensures.value c.word.ensures c.see.ensures in
    record { core = core-reads c.args.actor c.args.edge _ _ c.self.invariant.core may step; fits = c.self.invariant.fits }

pub returns : goal.returns
returns c =
    let actors = c.self.inside.actors.items in
    let live = rw (← c.self.view_is) at c.requires.live.live.is_there in
    let below : c.args.actor < length actors = slice_get_within actors c.args.actor c.requires.live.actor live in
    rw (← c.self.view_is) (reads c.self.inside.net c.self.inside.opening.items c.self.inside.opening_weight actors c.args.actor c.args.edge c.word.result
    c.index_mut.result.now c.see.new.self below c.index_mut.ensures.value c.word.ensures c.see.ensures)
