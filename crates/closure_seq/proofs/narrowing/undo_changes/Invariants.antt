use Rattle.std.proofs.Common.{◌≡◌, length}
use Rattle.edge_propagation.specs.Propagation.{IsInStep}
use Rattle.edge_propagation.specs.Worklist.{IsQuiet}
use Rattle.closure_seq.proofs.narrowing.undo_changes.Given as goal

abbrev pub invariant-loop-change : goal.invariant-loop-change
invariant-loop-change g l = record {
  planes : l.pairs.planes ≡ l.initial.pairs.planes;
  in_step : IsInStep (g.C.Compose.algebra l.c) l.levels.nodes l.levels.top l.pairs;
  quiet : IsQuiet l.pairs;
  rest : l.levels ≡ record l.initial.levels { top = l.levels.top; changes = l.levels.changes };
}

abbrev pub decreases-loop-change : goal.decreases-loop-change
decreases-loop-change g l = length l.levels.changes
