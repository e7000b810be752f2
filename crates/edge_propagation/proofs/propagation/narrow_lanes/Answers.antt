use Rattle.std.proofs.Common.{◌*◌, sym, ◌∙◌}
use Rattle.calculus_table.proofs.Sets.{IsWithin-trans, not_Has-empty}
use Rattle.edge_propagation.proofs.Steps.{IsStep-refl, IsStep-trans, IsReady-step, pair-step}
use Rattle.edge_propagation.proofs.Blocks.{AreLanesDone-step}
use Rattle.edge_propagation.proofs.propagation.narrow_lanes.Goals as goal

pub loop-span-init : goal.loop-span-init
loop-span-init g c = record { step = IsStep-refl _ _ c.requires.ready.sets; none = λ i j p e. e; settled = λ l small none t _. c.requires.clear l small none t }

pub narrow_proper-requires-clause-ready : goal.narrow_proper-requires-clause-ready
narrow_proper-requires-clause-ready g c = IsReady-step _ _ _ _ c.requires.ready c.loop-span.invariant.step

pub narrow_proper-requires-clause-proper : goal.narrow_proper-requires-clause-proper
narrow_proper-requires-clause-proper g c = pair-step _ _ _ _ _ c.loop-span.invariant.step c.requires.proper

pub loop-span-preserved : goal.loop-span-preserved
loop-span-preserved g c =
    AreLanesDone-step (g.C.Compose.algebra c.args.c.now) c.args.span c.args.work.now c.loop-span.work c.narrow_proper.new.work
    c.args.i c.args.j (16 * c.args.block) c.loop-span.left c.least-lane.result c.without-left.result
    c.loop-span.invariant c.without-left.ensures c.in_ok-narrow_proper.ensures.step c.in_ok-narrow_proper.ensures.none c.in_ok-narrow_proper.ensures.settled

pub returns-in_err-narrow_proper-clause-step : goal.returns-in_err-narrow_proper-clause-step
returns-in_err-narrow_proper-clause-step g c = IsStep-trans _ _ _ _ c.loop-span.invariant.step c.in_err-narrow_proper.ensures.step

pub returns-clause-settled : goal.returns-clause-settled
returns-clause-settled g c = λ l small t among.
    c.loop-span.invariant.settled l small (λ h. not_Has-empty l (rw (c.is_empty.ensures.0 c.loop-span-test.false) at h)) t among

pub narrow_proper-requires-clause-span : goal.narrow_proper-requires-clause-span
narrow_proper-requires-clause-span g c = rw c.loop-span.invariant.step.nodes c.requires.span

pub narrow_proper-requires-clause-within : goal.narrow_proper-requires-clause-within
narrow_proper-requires-clause-within g c = IsWithin-trans _ _ _ (c.loop-span.invariant.step.within _ _ c.requires.proper) c.requires.within

pub narrow_proper-requires-clause-set : goal.narrow_proper-requires-clause-set
narrow_proper-requires-clause-set g c = λ quiet.
    let step = c.loop-span.invariant.step in
    c.requires.set (λ w. quiet (step.stays _ _ w)) ∙ sym (step.same _ _ c.requires.proper quiet)
