use Rattle.std.proofs.Common.{◌≡◌, length}
use Rattle.std.specs.List.{All}
use Rattle.closure_workers.specs.Workers.{IsDesk, slices_of}
use Rattle.session_phase.proofs.phase.closed_desks.Given as goal

abbrev pub invariant-loop-desk : goal.invariant-loop-desk
invariant-loop-desk g l = record {
  desks : All (IsDesk (g.C.Compose.algebra l.c) l.nodes) l.desk-items;
  slices : slices_of l.desk-items ≡ slices_of l.initial.desk-items;
  count : length l.desk-items ≡ length l.initial.desk-items;
}
