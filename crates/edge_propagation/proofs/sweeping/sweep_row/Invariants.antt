use Rattle.std.proofs.Common.{◌≡◌}
use Rattle.edge_propagation.specs.declared.sweeping.Sweep.TheVariants as sweep
use Rattle.edge_propagation.specs.Propagation.{IsStep, EmptiesNone}
use Rattle.edge_propagation.proofs.Sweeps.{IsRowSwept}
use Rattle.edge_propagation.proofs.sweeping.sweep_row.Given as goal

abbrev pub invariant-loop-j : goal.invariant-loop-j
invariant-loop-j g l =
    let m = g.C.Compose.algebra l.c in
    record {
      step : IsStep m l.initial.work l.work;
      none : EmptiesNone l.initial.work l.work;
      settled : l.sweep ≡ sweep.Whole → IsRowSwept m l.work l.i l.j;
      bases : l.tables.bases ≡ l.initial.tables.bases;
    }
