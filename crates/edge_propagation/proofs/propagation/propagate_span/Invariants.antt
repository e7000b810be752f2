use Rattle.std.proofs.Common.{◌*◌}
use Rattle.edge_propagation.proofs.Blocks.{IsPropagated}
use Rattle.edge_propagation.proofs.propagation.propagate_span.Given as goal

abbrev pub invariant-loop-block : goal.invariant-loop-block
invariant-loop-block g l = IsPropagated (g.C.Compose.algebra l.c) l.span l.initial.work l.work l.i l.j (16 * l.block)
