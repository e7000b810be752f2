use Rattle.edge_propagation.specs.Propagation.{IsMet, IsRowMet}
use Rattle.edge_propagation.proofs.meeting.meet_row.Given as goal

abbrev pub invariant-loop-j : goal.invariant-loop-j
invariant-loop-j g l = record {
  met : IsMet (g.C.Compose.algebra l.c) l.fn.work l.work;
  row : IsRowMet l.words l.fn.work l.work l.i l.j;
}
