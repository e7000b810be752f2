use Rattle.std.proofs.Common.{sym, ◌∙◌, arith}
use Rattle.edge_propagation.proofs.Steps.{IsStep-refl, IsStep-trans, IsReady-step, pair-step}
use Rattle.edge_propagation.proofs.Blocks.{IsPropagated-block}
use Rattle.edge_propagation.proofs.propagation.propagate_span.Goals as goal

pub take-requires-clause-within : goal.take-requires-clause-within
take-requires-clause-within g c = rw c.get-a.ensures (c.requires.ready.sets.within _ _ c.requires.proper)

pub loop-block-init : goal.loop-block-init
loop-block-init g c = record { step = IsStep-refl _ _ c.requires.ready.sets; none = λ i j p e. e; settled = λ q l t among. absurd (let from = among.from in omega arith) }

pub propagate_block-requires-clause-ready : goal.propagate_block-requires-clause-ready
propagate_block-requires-clause-ready g c = IsReady-step _ _ _ _ c.requires.ready c.loop-block.invariant.step

pub propagate_block-requires-clause-proper : goal.propagate_block-requires-clause-proper
propagate_block-requires-clause-proper g c = pair-step _ _ _ _ _ c.loop-block.invariant.step c.requires.proper

pub propagate_block-requires-clause-set : goal.propagate_block-requires-clause-set
propagate_block-requires-clause-set g c = λ quiet. c.get-a.ensures ∙ sym (c.loop-block.invariant.step.same _ _ c.requires.proper quiet)

pub returns-in_err-propagate_block-clause-step : goal.returns-in_err-propagate_block-clause-step
returns-in_err-propagate_block-clause-step g c = IsStep-trans _ _ _ _ c.loop-block.invariant.step c.in_err-propagate_block.ensures.step

pub loop-block-preserved : goal.loop-block-preserved
loop-block-preserved g c =
    IsPropagated-block (g.C.Compose.algebra c.args.c.now) c.args.span c.args.work.now c.loop-block.work c.propagate_block.new.work c.args.i c.args.j c.loop-block.block
    c.loop-block.invariant c.in_ok-propagate_block.ensures.step c.in_ok-propagate_block.ensures.none c.in_ok-propagate_block.ensures.settled

pub returns-clause-settled : goal.returns-clause-settled
returns-clause-settled g c = λ k t among.
    c.loop-block.invariant.settled k (omega (arith, among.below, c.loop-block-test.false)) t among

pub returns-then-span-clause-settled : goal.returns-then-span-clause-settled
returns-then-span-clause-settled g c = λ k t among. absurd (omega (arith, among.from, among.below, c.if-span.true))

pub propagate_block-requires-clause-span : goal.propagate_block-requires-clause-span
propagate_block-requires-clause-span g c = rw c.loop-block.invariant.step.nodes c.requires.span

pub propagate_block-requires-clause-within : goal.propagate_block-requires-clause-within
propagate_block-requires-clause-within g c = rw c.get-a.ensures (c.loop-block.invariant.step.within _ _ c.requires.proper)
