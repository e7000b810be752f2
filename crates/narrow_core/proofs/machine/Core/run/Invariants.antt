use Rattle.std.proofs.Common.{take}
use Rattle.narrow_core.specs.Machine.{SameOpening}
use Rattle.narrow_core.specs.Run.{IsRun}
use Rattle.narrow_core.specs.Bound.{Bound}
use Rattle.narrow_core.proofs.machine.Core.run.Given as goal

abbrev pub invariant-loop-done : goal.invariant-loop-done
invariant-loop-done g l = record {
  run : IsRun (g.C.Compose.algebra l.c) (take l.done l.events) l.fn.self l.self;
  same : SameOpening l.fn.self l.self;
  bound : Bound (g.C.Compose.algebra l.c) l.fn.self → Bound (g.C.Compose.algebra l.c) l.self;
}
