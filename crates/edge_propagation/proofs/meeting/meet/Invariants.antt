use Rattle.edge_propagation.specs.Propagation.{IsMet, AreRowsMet}
use Rattle.edge_propagation.proofs.meeting.meet.Given as goal

abbrev pub invariant-loop-i : goal.invariant-loop-i
invariant-loop-i g l = record {
  met : IsMet (g.C.Compose.algebra l.c) l.fn.work l.work;
  rows : AreRowsMet l.words l.fn.work l.work l.i;
}
