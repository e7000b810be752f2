use Rattle.std.proofs.Common.{subst, sym, ◌∙◌, ap, refl, arith, length}
use Rattle.std.proofs.lemmas.List.{length-set}
use Rattle.edge_propagation.specs.Worklist.{Worklist}
use Rattle.closure_seq.specs.Levels.{LevelSets}
use Rattle.edge_propagation.specs.Propagation.{AreClosed}
use Rattle.closure_seq.specs.Paths.{IsInStepBut}
use Rattle.edge_propagation.proofs.Places.{waiting-pair}
use Rattle.edge_propagation.proofs.Steps.{IsRefinement-refl, IsRefinement-step, IsRefinement-queue, IsReady-refinement}
use Rattle.edge_propagation.proofs.Settled.{IsReady-queue, IsSettledBut-popped, AreRowsClosed-idle, AreClosed-all}
use Rattle.closure_seq.proofs.Trails.{rest-levels}
use Rattle.closure_seq.proofs.InStep.{IsInStepBut-stored, IsInStepBut-again, IsInStepBut-step}
use Rattle.closure_seq.proofs.narrowing.propagate_level.Goals as goal

pub loop-i-init : goal.loop-i-init
loop-i-init g c = record { refined = IsRefinement-refl _ _ c.requires.ready.sets; settled = rw (c.all_nodes-rows.ensures, c.nodes.ensures.value) c.requires.settled; in_step = c.requires.in_step; rest = refl; length_is = refl; bases = refl }

pub returns-in-Err-clause-refined : goal.returns-in-Err-clause-refined
returns-in-Err-clause-refined g c =
    rw (c.in-Err.ensures.queued, c.in-Some.ensures.taken) (IsRefinement-queue (g.C.Compose.algebra c.args.c.now) c.args.pairs.now c.loop-i.pairs _ c.loop-i.invariant.refined)

pub returns-in-Err-clause-in_step : goal.returns-in-Err-clause-in_step
returns-in-Err-clause-in_step g c =
    let l = c.loop-i.levels in
    rw (c.in-Err.ensures.kept, c.in-Err.ensures.queued, c.in-Some.ensures.taken)
    (IsInStepBut-again (g.C.Compose.algebra c.args.c.now) l.nodes l.top c.loop-i.pairs _ c.loop-i.invariant.in_step)

pub propagate-requires-clause-ready : goal.propagate-requires-clause-ready
propagate-requires-clause-ready g c =
    rw (c.in_default-store_set.ensures.pairs, c.in-Some.ensures.taken)
    (IsReady-queue _ _ c.loop-i.pairs _ (IsReady-refinement _ _ _ _ c.requires.ready c.loop-i.invariant.refined))

pub propagate-requires-clause-settled : goal.propagate-requires-clause-settled
propagate-requires-clause-settled g c =
    rw (c.in_default-store_set.ensures.pairs, c.in-Some.ensures.taken)
    (IsSettledBut-popped (g.C.Compose.algebra c.args.c.now) c.all_nodes-rows.result c.loop-i.pairs c.in-Some.i c.in-Some.j c.pop.ensures.sized (waiting-pair c.loop-i.pairs c.in-Some.i c.in-Some.j c.in-Some.ensures.queued) c.loop-i.invariant.settled)

pub returns-in-Err-propagate-clause-refined : goal.returns-in-Err-propagate-clause-refined
returns-in-Err-propagate-clause-refined g c =
    IsRefinement-step _ c.args.pairs.now c.loop-i.pairs c.store_set.new.pairs c.propagate.new.work _ (c.in_default-store_set.ensures.pairs ∙ c.in-Some.ensures.taken) c.loop-i.invariant.refined c.in-Err-propagate.ensures.step

pub returns-in-Err-propagate-clause-in_step : goal.returns-in-Err-propagate-clause-in_step
returns-in-Err-propagate-clause-in_step g c =
    let m = g.C.Compose.algebra c.args.c.now in
    let w = c.loop-i.pairs in
    let l = c.loop-i.levels in
    let p = c.loop-i.invariant in
    let q = c.in-Some.ensures.queued in
    let s = c.in_default-store_set.ensures in
    let stored : IsInStepBut m c.store_set.new.levels.nodes c.store_set.new.levels.top c.store_set.new.pairs =
    rw (s.word, s.pairs, c.in-Some.ensures.taken)
    (IsInStepBut-stored m l.nodes l.top w c.in-Some.i c.in-Some.j c.pop.ensures.sized p.refined.sets q.order (omega (arith, q.below, p.in_step.nodes)) s.sized p.in_step) in
    IsInStepBut-step m _ _ c.store_set.new.pairs c.propagate.new.work stored c.in-Err-propagate.ensures.step

pub loop-i-preserved : goal.loop-i-preserved
loop-i-preserved g c =
    let m = g.C.Compose.algebra c.args.c.now in
    let w = c.loop-i.pairs in
    let l = c.loop-i.levels in
    let p = c.loop-i.invariant in
    let q = c.in-Some.ensures.queued in
    let s = c.in_default-store_set.ensures in
    let stored : IsInStepBut m c.store_set.new.levels.nodes c.store_set.new.levels.top c.store_set.new.pairs =
    rw (s.word, s.pairs, c.in-Some.ensures.taken)
    (IsInStepBut-stored m l.nodes l.top w c.in-Some.i c.in-Some.j c.pop.ensures.sized p.refined.sets q.order (omega (arith, q.below, p.in_step.nodes)) s.sized p.in_step) in
    record {
      refined = IsRefinement-step m c.args.pairs.now w c.store_set.new.pairs c.propagate.new.work _ (s.pairs ∙ c.in-Some.ensures.taken) p.refined c.in_default-propagate.ensures.step;
      settled = c.in_default-propagate.ensures.settled;
      in_step = IsInStepBut-step m _ _ c.store_set.new.pairs c.propagate.new.work stored c.in_default-propagate.ensures.step;
      rest = rest-levels c.args.levels.now l c.store_set.new.levels _ _ p.rest s.word;
      length_is = ap (λ (y : LevelSets). length y.top) s.word ∙ length-set l.top _ _ ∙ p.length_is;
      bases = c.in_default-propagate.ensures.tables ∙ p.bases;
    }

pub returns-clause-closed : goal.returns-clause-closed
returns-clause-closed g c =
    subst (λ (y : Worklist). AreClosed (g.C.Compose.algebra c.args.c.now) y) (sym c.in_default.ensures.idle.0)
    (AreClosed-all (g.C.Compose.algebra c.args.c.now) c.args.pairs.now.nodes c.loop-i.pairs c.loop-i.invariant.refined.nodes
    (rw (c.all_nodes-rows.ensures, c.nodes.ensures.value) at (AreRowsClosed-idle (g.C.Compose.algebra c.args.c.now) c.all_nodes-rows.result c.loop-i.pairs c.loop-i.invariant.settled c.in_default.ensures.idle.1)))
