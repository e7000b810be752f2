use Rattle.std.proofs.Common.{◌≡◌}
use Rattle.edge_propagation.specs.Propagation.{IsLoaded}
use Rattle.edge_propagation.proofs.loading.load.Given as goal

abbrev pub invariant-loop-i : goal.invariant-loop-i
invariant-loop-i g l = record {
  nodes : l.work.nodes ≡ l.fn.work.nodes;
  planes : l.work.planes ≡ l.initial.work.planes;
  loaded : IsLoaded (g.C.Compose.algebra l.c) l.fn.work.nodes l.words l.work l.i;
}
