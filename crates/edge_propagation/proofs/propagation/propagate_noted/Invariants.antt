use Rattle.std.proofs.Common.{◌≡◌}
use Rattle.edge_propagation.specs.Worklist.{work_left}
use Rattle.edge_propagation.specs.Propagation.{IsRefinement, EmptiesNone, IsSettled}
use Rattle.edge_propagation.proofs.propagation.propagate_noted.Given as goal

abbrev pub invariant-loop-i : goal.invariant-loop-i
invariant-loop-i g l =
    let m = g.C.Compose.algebra l.c in
    record {
      refined : IsRefinement m l.initial.work l.work;
      none : EmptiesNone l.initial.work l.work;
      settled : IsSettled m l.rows l.work;
      bases : l.tables.bases ≡ l.initial.tables.bases;
    }

abbrev pub decreases-loop-i : goal.decreases-loop-i
decreases-loop-i g l = work_left l.work
