use Rattle.std.proofs.Common.{◌≡◌, ◌*◌, ◌/◌, ◌%◌, ◌^◌}
use Rattle.calculus_table.specs.Composition.{composition}
use Rattle.compose_fast.specs.Nibbles.{byte}
use Rattle.compose_fast.proofs.tables.Tables.compose_byte.Given as goal

abbrev pub invariant-loop-h : goal.invariant-loop-h
invariant-loop-h g l = record {
  all : l.all ≡ byte (composition (g.C.Compose.algebra l.c) l.fn.a (l.fn.b % 2 ^ (4 * l.h))) l.p;
  rest : l.rest ≡ l.fn.b / 2 ^ (4 * l.h);
}
