use Rattle.std.proofs.Common.{◌+◌, ◌<◌, ◌≤◌, length, arith, rules}
use Rattle.std.proofs.lemmas.Option.{slice_get_within}
use Rattle.narrow_core.proofs.Cores.{core-joins, weights-two, live_here}
use Rattle.narrow_core.proofs.Steps.{joins, there}
use Rattle.narrow_core.proofs.machine.Core.join.Goals as goal

pub joined-requires : goal.joined-requires
joined-requires c =
    let actors = c.self.inside.actors.items in
    let may = rw (← c.self.view_is) at c.requires in
    let core = c.self.invariant.core in
    let below : c.args.actor < length actors = slice_get_within actors c.args.actor may.live.actor may.live.live.is_there in
    let other_below : c.args.other < length actors = slice_get_within actors c.args.other may.other_live.actor may.other_live.live.is_there in
    let first = there actors c.args.actor c.index.result.now below c.index.ensures in
    let second = there actors c.args.other c.index-2.result.now other_below c.index-2.ensures in
    let both : c.index.result.now.weight + c.index-2.result.now.weight ≤ c.self.inside.opening_weight =
    weights-two c.self.inside.opening_weight actors c.args.actor c.args.other c.index.result.now c.index-2.result.now may.differ
    (live_here _ c.args.actor c.index.result.now may.live first) (live_here _ c.args.other c.index-2.result.now may.other_live second) core.weights in
    omega arith

pub index_mut-requires : goal.index_mut-requires
index_mut-requires c =
    let actors = c.self.inside.actors.items in
    let may = rw (← c.self.view_is) at c.requires in
    let below : c.args.actor < length actors = slice_get_within actors c.args.actor may.live.actor may.live.live.is_there in
    search (rules, below)

pub index_mut-requires-2 : goal.index_mut-requires-2
index_mut-requires-2 c =
    let actors = c.self.inside.actors.items in
    let may = rw (← c.self.view_is) at c.requires in
    let below : c.args.other < length actors = slice_get_within actors c.args.other may.other_live.actor may.other_live.live.is_there in
    search (rules, below)

pub invariant_of-self : goal.invariant_of-self
invariant_of-self c =
    let actors = c.self.inside.actors.items in
    let may = rw (← c.self.view_is) at c.requires in
    let below : c.args.actor < length actors = slice_get_within actors c.args.actor may.live.actor may.live.live.is_there in
    let other_below : c.args.other < length actors = slice_get_within actors c.args.other may.other_live.actor may.other_live.live.is_there in
    let step = joins c.self.inside.net c.self.inside.opening.items c.self.inside.opening_weight actors c.args.actor c.args.other
    c.index.result.now c.index-2.result.now c.in_ok-joined.joined c.index_mut-2.result.now c.spend.new.self may.differ below other_below
    c.index.ensures c.index-2.ensures c.in_ok-joined.ensures c.index_mut-2.ensures.value c.spend.ensures in
    record { core = core-joins c.args.actor c.args.other _ _ c.self.invariant.core may step; fits = c.self.invariant.fits }

pub returns-clause-joined : goal.returns-clause-joined
returns-clause-joined c =
    let actors = c.self.inside.actors.items in
    let may = rw (← c.self.view_is) at c.requires in
    let below : c.args.actor < length actors = slice_get_within actors c.args.actor may.live.actor may.live.live.is_there in
    let other_below : c.args.other < length actors = slice_get_within actors c.args.other may.other_live.actor may.other_live.live.is_there in
    rw (← c.self.view_is) (joins c.self.inside.net c.self.inside.opening.items c.self.inside.opening_weight actors c.args.actor c.args.other
    c.index.result.now c.index-2.result.now c.in_ok-joined.joined c.index_mut-2.result.now c.spend.new.self may.differ below other_below
    c.index.ensures c.index-2.ensures c.in_ok-joined.ensures c.index_mut-2.ensures.value c.spend.ensures)
