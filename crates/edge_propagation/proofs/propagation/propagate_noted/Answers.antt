use Rattle.std.proofs.Common.{◌<◌, ◌⊎◌, subst, sym, ◌∙◌, refl, arith}
use Rattle.edge_propagation.specs.Worklist.{Worklist, IsQuiet, LacksRoom, work_left}
use Rattle.edge_propagation.specs.Propagation.{IsRefinement, EmptiesNone, IsSettled}
use Rattle.edge_propagation.proofs.Places.{waiting-pair}
use Rattle.edge_propagation.proofs.Steps.{IsRefinement-refl, IsRefinement-step, IsReady-refinement, EmptiesNone-queue}
use Rattle.edge_propagation.proofs.Settled.{IsReady-queue, IsSettledBut-popped, work_left-popped}
use Rattle.edge_propagation.proofs.propagation.propagate_noted.Goals as goal

pub loop-i-init : goal.loop-i-init
loop-i-init g c = record { refined = IsRefinement-refl _ _ c.requires.ready.sets; none = λ i j p e. e; settled = c.requires.settled; bases = refl }

pub propagate-requires-clause-ready : goal.propagate-requires-clause-ready
propagate-requires-clause-ready g c =
    rw c.in-Some.ensures.taken (IsReady-queue _ _ c.loop-i.work _ (IsReady-refinement _ _ _ _ c.requires.ready c.loop-i.invariant.refined))

pub propagate-requires-clause-proper : goal.propagate-requires-clause-proper
propagate-requires-clause-proper g c = rw c.in-Some.ensures.taken (waiting-pair c.loop-i.work c.in-Some.i c.in-Some.j c.in-Some.ensures.queued)

pub propagate-requires-clause-settled : goal.propagate-requires-clause-settled
propagate-requires-clause-settled g c =
    rw c.in-Some.ensures.taken
    (IsSettledBut-popped (g.C.Compose.algebra c.args.c.now) c.args.rows c.loop-i.work c.in-Some.i c.in-Some.j c.pop_noted.ensures.sized (waiting-pair c.loop-i.work c.in-Some.i c.in-Some.j c.in-Some.ensures.queued) c.loop-i.invariant.settled)

pub loop-i-preserved : goal.loop-i-preserved
loop-i-preserved g c = record {
  refined = IsRefinement-step _ c.args.work.now c.loop-i.work c.pop_noted.new.self c.propagate.new.work _ c.in-Some.ensures.taken c.loop-i.invariant.refined c.in_ok-propagate.ensures.step;
  none = EmptiesNone-queue _ c.args.work.now c.loop-i.work c.pop_noted.new.self c.propagate.new.work _ c.in-Some.ensures.taken c.loop-i.invariant.refined c.loop-i.invariant.none c.in_ok-propagate.ensures.none;
  settled = c.in_ok-propagate.ensures.settled;
  bases = c.in_ok-propagate.ensures.tables ∙ c.loop-i.invariant.bases;
}

pub loop-i-smaller : goal.loop-i-smaller
loop-i-smaller g c =
    let w = c.loop-i.work in
    let less : work_left c.pop_noted.new.self < work_left w =
    subst (λ (y : Worklist). work_left y < work_left w) (sym c.in-Some.ensures.taken)
    (work_left-popped w c.in-Some.i c.in-Some.j c.pop_noted.ensures.sized (waiting-pair w c.in-Some.i c.in-Some.j c.in-Some.ensures.queued) c.in-Some.ensures.queued.queued) in
    let step = c.in_ok-propagate.ensures.step.less in
    omega arith

pub returns-in_err-propagate-clause-refined : goal.returns-in_err-propagate-clause-refined
returns-in_err-propagate-clause-refined g c =
    IsRefinement-step _ c.args.work.now c.loop-i.work c.pop_noted.new.self c.propagate.new.work _ c.in-Some.ensures.taken c.loop-i.invariant.refined c.in_err-propagate.ensures.step

pub returns-clause-settled : goal.returns-clause-settled
returns-clause-settled g c =
    subst (λ (y : Worklist). IsSettled (g.C.Compose.algebra c.args.c.now) c.args.rows y) (sym c.in_default.ensures.done.0) c.loop-i.invariant.settled

pub returns-clause-refined : goal.returns-clause-refined
returns-clause-refined g c =
    subst (λ (y : Worklist). IsRefinement (g.C.Compose.algebra c.args.c.now) c.args.work.now y) (sym c.in_default.ensures.done.0) c.loop-i.invariant.refined

pub returns-clause-done : goal.returns-clause-done
returns-clause-done g c = subst (λ (y : Worklist). IsQuiet y ⊎ LacksRoom y) (sym c.in_default.ensures.done.0) c.in_default.ensures.done.1

pub returns-clause-none : goal.returns-clause-none
returns-clause-none g c = subst (λ (y : Worklist). EmptiesNone c.args.work.now y) (sym c.in_default.ensures.done.0) c.loop-i.invariant.none
