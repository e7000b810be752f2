use Rattle.std.proofs.Common.{◌≡◌, ◌*◌, ◌%◌, ◌^◌}
use Rattle.calculus_table.specs.Composition.{composition}
use Rattle.compose_fast.proofs.tables.Tables.compose.Given as goal

abbrev pub invariant-loop-p : goal.invariant-loop-p
invariant-loop-p g l = l.all ≡ composition (g.C.Compose.algebra l.c) l.fn.a l.fn.b % 2 ^ (8 * l.p)
