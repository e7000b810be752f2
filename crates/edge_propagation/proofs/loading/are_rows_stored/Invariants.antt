use Rattle.edge_propagation.specs.Propagation.{IsStored}
use Rattle.edge_propagation.proofs.loading.are_rows_stored.Given as goal

abbrev pub invariant-loop-i : goal.invariant-loop-i
invariant-loop-i g l = IsStored l.work.nodes l.words l.work l.i
