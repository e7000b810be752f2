use Rattle.std.proofs.Common.{◌≡◌}
use Rattle.edge_propagation.proofs.Loads.{IsRowLoaded}
use Rattle.edge_propagation.proofs.loading.load_row.Given as goal

abbrev pub invariant-loop-j : goal.invariant-loop-j
invariant-loop-j g l = record {
  planes : l.work.planes ≡ l.initial.work.planes;
  loaded : IsRowLoaded (g.C.Compose.algebra l.c) l.fn.work.nodes l.words l.work l.i l.j;
}
