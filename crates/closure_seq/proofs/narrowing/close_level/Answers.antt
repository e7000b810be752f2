use Rattle.std.proofs.Common.{subst, ap, ◌∙◌}
use Rattle.std.proofs.lemmas.Result.{IfErr-weaker}
use Rattle.compose_fast.specs.Planes.{AreBaseTables}
use Rattle.network_words.proofs.Pairs.{pair-ordered}
use Rattle.edge_propagation.specs.Worklist.{Worklist}
use Rattle.edge_propagation.specs.Propagation.{IsRefinement, all_nodes}
use Rattle.closure_seq.proofs.Standing.{IsReady-narrowed, IsSettled-narrowed, IsInStepBut-narrowed, IsWithin-narrowed, IsClosure-level, IsStanding-level, IsEmptyClosure-level, on_ok_both}
use Rattle.closure_seq.proofs.narrowing.close_level.Goals as goal

pub refine-requires-clause-proper : goal.refine-requires-clause-proper
refine-requires-clause-proper g c = rw c.requires.standing.in_step.nodes (pair-ordered c.args.levels.now.nodes c.args.i c.args.j c.requires.order c.requires.below)

pub refine-requires-clause-within : goal.refine-requires-clause-within
refine-requires-clause-within g c =
    let r = c.requires in
    IsWithin-narrowed (g.C.Compose.algebra c.args.c.now) c.args.pairs.now c.args.levels.now c.args.tables.now.bases c.args.i c.args.j c.args.rel r.standing c.nodes-nodes.ensures.sized r.order r.below r.within

pub propagate_level-requires-clause-ready : goal.propagate_level-requires-clause-ready
propagate_level-requires-clause-ready g c =
    let r = c.requires in
    rw c.refine.ensures.value
    (IsReady-narrowed (g.C.Compose.algebra c.args.c.now) c.args.pairs.now c.args.levels.now c.args.tables.now.bases c.args.i c.args.j c.args.rel r.standing c.nodes-nodes.ensures.sized r.order r.below r.within g.row.P r.planes)

pub propagate_level-requires-clause-settled : goal.propagate_level-requires-clause-settled
propagate_level-requires-clause-settled g c =
    let r = c.requires in
    rw c.refine.ensures.value
    (IsSettled-narrowed (g.C.Compose.algebra c.args.c.now) c.args.pairs.now c.args.levels.now c.args.tables.now.bases c.args.i c.args.j c.args.rel r.standing c.nodes-nodes.ensures.sized r.order r.below r.within
    (all_nodes c.args.pairs.now.nodes))

pub propagate_level-requires-clause-tables : goal.propagate_level-requires-clause-tables
propagate_level-requires-clause-tables g c =
    subst (λ p. AreBaseTables (g.C.Compose.algebra c.args.c.now) p c.args.tables.now.bases) c.requires.planes c.requires.standing.tables

pub propagate_level-requires-clause-full : goal.propagate_level-requires-clause-full
propagate_level-requires-clause-full g c = c.requires.standing.full_is

pub propagate_level-requires-clause-in_step : goal.propagate_level-requires-clause-in_step
propagate_level-requires-clause-in_step g c =
    let r = c.requires in
    rw c.refine.ensures.value
    (IsInStepBut-narrowed (g.C.Compose.algebra c.args.c.now) c.args.pairs.now c.args.levels.now c.args.tables.now.bases c.args.i c.args.j c.args.rel r.standing c.nodes-nodes.ensures.sized r.order r.below r.within)

pub returns-clause-standing : goal.returns-clause-standing
returns-clause-standing g c =
    let r = c.requires in
    let m = g.C.Compose.algebra c.args.c.now in
    let e = c.propagate_level.ensures in
    let step = subst (λ (y : Worklist). IsRefinement m y c.propagate_level.new.pairs) c.refine.ensures.value e.refined in
    on_ok_both c.propagate_level.result
    (λ closed quiet. IsStanding-level m c.args.pairs.now c.args.levels.now c.args.tables.now.bases c.args.i c.args.j c.args.rel r.standing c.nodes-nodes.ensures.sized r.order r.below r.within
    c.propagate_level.new.pairs c.propagate_level.new.levels step e.rest e.length_is c.propagate_level.new.tables.bases e.tables closed quiet e.in_step)
    e.closed e.quiet

pub returns-clause-closure : goal.returns-clause-closure
returns-clause-closure g c =
    let r = c.requires in
    let m = g.C.Compose.algebra c.args.c.now in
    let e = c.propagate_level.ensures in
    let step = subst (λ (y : Worklist). IsRefinement m y c.propagate_level.new.pairs) c.refine.ensures.value e.refined in
    on_ok_both c.propagate_level.result
    (λ closed quiet. IsClosure-level m c.args.pairs.now c.args.levels.now c.args.tables.now.bases c.args.i c.args.j c.args.rel r.standing c.nodes-nodes.ensures.sized r.order r.below r.within
    c.propagate_level.new.pairs c.propagate_level.new.levels step e.rest e.length_is closed quiet e.in_step)
    e.closed e.quiet

pub returns-clause-empty : goal.returns-clause-empty
returns-clause-empty g c =
    let r = c.requires in
    let m = g.C.Compose.algebra c.args.c.now in
    let e = c.propagate_level.ensures in
    let step = subst (λ (y : Worklist). IsRefinement m y c.propagate_level.new.pairs) c.refine.ensures.value e.refined in
    IfErr-weaker c.propagate_level.result _ _
    (λ why h emptied. IsEmptyClosure-level m c.args.pairs.now c.args.levels.now c.args.tables.now.bases c.args.i c.args.j c.args.rel r.standing c.nodes-nodes.ensures.sized r.order r.below r.within
    c.propagate_level.new.pairs c.propagate_level.new.levels step e.rest e.length_is (h emptied))
    e.empty

pub returns-clause-planes : goal.returns-clause-planes
returns-clause-planes g c = c.propagate_level.ensures.refined.planes ∙ ap (λ (y : Worklist). y.planes) c.refine.ensures.value
