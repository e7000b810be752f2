use Rattle.std.proofs.Common.{◌*◌}
use Rattle.edge_propagation.proofs.Blocks.{AreLanesDone}
use Rattle.edge_propagation.proofs.propagation.narrow_lanes.Given as goal

abbrev pub invariant-loop-span : goal.invariant-loop-span
invariant-loop-span g l = AreLanesDone (g.C.Compose.algebra l.c) l.span l.initial.work l.work l.i l.j (16 * l.block) l.left

abbrev pub decreases-loop-span : goal.decreases-loop-span
decreases-loop-span g l = l.left
