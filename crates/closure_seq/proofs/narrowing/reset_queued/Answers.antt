use Rattle.std.proofs.Common.{◌<◌, subst, sym, ◌∙◌, ap, refl, arith, length}
use Rattle.calculus_table.specs.Rel.{IsWithin}
use Rattle.edge_propagation.specs.Worklist.{Worklist, edge_place}
use Rattle.edge_propagation.specs.Propagation.{IsInStep}
use Rattle.edge_propagation.specs.Worklist.{IsQuiet}
use Rattle.edge_propagation.proofs.Places.{waiting-pair, count-cleared, edge_place-inside}
use Rattle.closure_seq.proofs.InStep.{IsInStepBut-reset, IsInStep-quiet}
use Rattle.closure_seq.proofs.narrowing.reset_queued.Goals as goal

pub loop-i-init : goal.loop-i-init
loop-i-init g c = record { planes = refl; in_step = c.requires.in_step }

pub set_between-requires-clause-order : goal.set_between-requires-clause-order
set_between-requires-clause-order g c = c.in-Some.ensures.queued.order

pub set_between-requires-clause-below : goal.set_between-requires-clause-below
set_between-requires-clause-below g c = omega (arith, c.in-Some.ensures.queued.below, c.loop-i.invariant.in_step.nodes)

pub put_pair-requires-clause-planes : goal.put_pair-requires-clause-planes
put_pair-requires-clause-planes g c = ap (λ (y : Worklist). y.planes) c.in-Some.ensures.taken ∙ c.loop-i.invariant.planes ∙ c.requires.planes

pub put_pair-requires-clause-proper : goal.put_pair-requires-clause-proper
put_pair-requires-clause-proper g c = rw c.in-Some.ensures.taken (waiting-pair c.loop-i.pairs c.in-Some.i c.in-Some.j c.in-Some.ensures.queued)

pub put_pair-requires-clause-within : goal.put_pair-requires-clause-within
put_pair-requires-clause-within g c = subst (IsWithin c.set_between.result) c.requires.full c.set_between.ensures.within

pub loop-i-preserved : goal.loop-i-preserved
loop-i-preserved g c =
    let m = g.C.Compose.algebra c.args.c.now in
    let w = c.loop-i.pairs in
    let p = c.loop-i.invariant in
    let q = c.in-Some.ensures.queued in
    record {
      planes = ap (λ (y : Worklist). y.planes) c.put_pair.ensures.value ∙ ap (λ (y : Worklist). y.planes) c.in-Some.ensures.taken ∙ p.planes;
      in_step = rw (c.put_pair.ensures.value, c.in-Some.ensures.taken)
          (IsInStepBut-reset m c.args.levels.now.nodes c.args.levels.now.top w c.in-Some.i c.in-Some.j c.set_between.result c.pop.ensures.sized q.order (omega (arith, q.below, p.in_step.nodes))
          c.set_between.ensures.value p.in_step);
    }

pub loop-i-smaller : goal.loop-i-smaller
loop-i-smaller g c =
    let w = c.loop-i.pairs in
    let z = c.pop.ensures.sized in
    let pair = waiting-pair w c.in-Some.i c.in-Some.j c.in-Some.ensures.queued in
    let e = edge_place c.in-Some.i c.in-Some.j in
    let inside : e < length w.queued = omega (arith, z.queued_length, edge_place-inside w.nodes c.in-Some.i c.in-Some.j z.bounded pair) in
    rw (c.put_pair.ensures.value, c.in-Some.ensures.taken) (omega (arith, count-cleared w.queued e inside c.in-Some.ensures.queued.queued))

pub returns-clause-planes : goal.returns-clause-planes
returns-clause-planes g c = ap (λ (y : Worklist). y.planes) c.in_default.ensures.idle.0 ∙ c.loop-i.invariant.planes

pub returns-clause-in_step : goal.returns-clause-in_step
returns-clause-in_step g c =
    let m = g.C.Compose.algebra c.args.c.now in
    let l = c.args.levels.now in
    subst (λ (y : Worklist). IsInStep m l.nodes l.top y) (sym c.in_default.ensures.idle.0) (IsInStep-quiet m l.nodes l.top c.loop-i.pairs c.loop-i.invariant.in_step c.in_default.ensures.idle.1)

pub returns-clause-quiet : goal.returns-clause-quiet
returns-clause-quiet g c = subst IsQuiet (sym c.in_default.ensures.idle.0) c.in_default.ensures.idle.1
