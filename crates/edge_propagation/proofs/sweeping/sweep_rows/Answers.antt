use Rattle.std.proofs.Common.{refl, ◌∙◌, arith}
use Rattle.edge_propagation.proofs.Steps.{IsStep-refl, IsStep-trans, IsReady-step, EmptiesNone-trans}
use Rattle.edge_propagation.proofs.Sweeps.{AreRowsSettled-more}
use Rattle.edge_propagation.proofs.sweeping.sweep_rows.Goals as goal

pub loop-i-init : goal.loop-i-init
loop-i-init g c = record { step = IsStep-refl _ _ c.requires.ready.sets; none = λ i j p e. e; settled = λ _ r low high. absurd (omega (arith, low, high)); bases = refl }

pub sweep_row-requires-clause-ready : goal.sweep_row-requires-clause-ready
sweep_row-requires-clause-ready g c = IsReady-step _ _ _ _ c.requires.ready c.loop-i.invariant.step

pub returns-in_err-sweep_row-clause-step : goal.returns-in_err-sweep_row-clause-step
returns-in_err-sweep_row-clause-step g c = IsStep-trans _ _ _ _ c.loop-i.invariant.step c.in_err-sweep_row.ensures.step

pub loop-i-preserved : goal.loop-i-preserved
loop-i-preserved g c =
    let p = c.in_ok-sweep_row.ensures in
    let before = c.loop-i.invariant in
    record {
      step = IsStep-trans _ _ _ _ before.step p.step;
      none = EmptiesNone-trans (g.C.Compose.algebra c.args.c.now) c.args.work.now c.loop-i.work c.sweep_row.new.work before.step before.none p.none;
      settled = λ whole. AreRowsSettled-more (g.C.Compose.algebra c.args.c.now) c.loop-i.work c.sweep_row.new.work c.args.rows.first c.loop-i.i p.step (before.settled whole) (p.settled whole);
      bases = p.tables ∙ before.bases;
    }
