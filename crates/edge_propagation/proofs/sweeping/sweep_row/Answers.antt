use Rattle.std.proofs.Common.{refl, ◌∙◌, arith}
use Rattle.edge_propagation.proofs.Steps.{IsStep-refl, IsStep-trans, IsReady-step, EmptiesNone-trans}
use Rattle.edge_propagation.proofs.Sweeps.{IsRowSwept-node}
use Rattle.edge_propagation.proofs.sweeping.sweep_row.Goals as goal

pub loop-j-init : goal.loop-j-init
loop-j-init g c = record { step = IsStep-refl _ _ c.requires.ready.sets; none = λ i j p e. e; settled = λ _ j k none. absurd (omega (arith, none)); bases = refl }

pub sweep_along-requires-clause-ready : goal.sweep_along-requires-clause-ready
sweep_along-requires-clause-ready g c = IsReady-step _ _ _ _ c.requires.ready c.loop-j.invariant.step

pub returns-in_err-sweep_along-clause-step : goal.returns-in_err-sweep_along-clause-step
returns-in_err-sweep_along-clause-step g c = IsStep-trans _ _ _ _ c.loop-j.invariant.step c.in_err-sweep_along.ensures.step

pub loop-j-preserved : goal.loop-j-preserved
loop-j-preserved g c =
    let p = c.in_ok-sweep_along.ensures in
    let before = c.loop-j.invariant in
    record {
      step = IsStep-trans _ _ _ _ before.step p.step;
      none = EmptiesNone-trans (g.C.Compose.algebra c.args.c.now) c.args.work.now c.loop-j.work c.sweep_along.new.work before.step before.none p.none;
      settled = λ whole. IsRowSwept-node (g.C.Compose.algebra c.args.c.now) c.loop-j.work c.sweep_along.new.work c.args.i c.loop-j.j p.step (before.settled whole) (p.settled whole);
      bases = p.tables ∙ before.bases;
    }
