use Rattle.std.proofs.Common.{◌≡◌, length}
use Rattle.edge_propagation.specs.Worklist.{work_left}
use Rattle.edge_propagation.specs.Propagation.{IsRefinement, IsSettled}
use Rattle.closure_seq.specs.Paths.{IsInStepBut}
use Rattle.closure_seq.proofs.narrowing.propagate_level.Given as goal

abbrev pub invariant-loop-i : goal.invariant-loop-i
invariant-loop-i g l =
    let m = g.C.Compose.algebra l.c in
    record {
      refined : IsRefinement m l.initial.pairs l.pairs;
      settled : IsSettled m l.rows l.pairs;
      in_step : IsInStepBut m l.levels.nodes l.levels.top l.pairs;
      rest : l.levels ≡ record l.initial.levels { top = l.levels.top; changes = l.levels.changes };
      length_is : length l.levels.top ≡ length l.initial.levels.top;
      bases : l.tables.bases ≡ l.initial.tables.bases;
    }

abbrev pub decreases-loop-i : goal.decreases-loop-i
decreases-loop-i g l = work_left l.pairs
