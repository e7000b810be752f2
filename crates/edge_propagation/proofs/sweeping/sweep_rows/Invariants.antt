use Rattle.std.proofs.Common.{◌≡◌, ℕ, ◌<◌, ◌≤◌}
use Rattle.edge_propagation.specs.declared.sweeping.Sweep.TheVariants as sweep
use Rattle.edge_propagation.specs.Propagation.{IsStep, EmptiesNone, IsRowSettled}
use Rattle.edge_propagation.proofs.sweeping.sweep_rows.Given as goal

abbrev pub invariant-loop-i : goal.invariant-loop-i
invariant-loop-i g l =
    let m = g.C.Compose.algebra l.c in
    record {
      step : IsStep m l.initial.work l.work;
      none : EmptiesNone l.initial.work l.work;
      settled : l.sweep ≡ sweep.Whole → (r : ℕ) → l.fn.rows.first ≤ r → r < l.i → IsRowSettled m l.work r;
      bases : l.tables.bases ≡ l.initial.tables.bases;
    }
