use Rattle.std.proofs.Common.{◌≡◌, ◌*◌, ◌/◌, ◌%◌, ◌^◌}
use Rattle.calculus_table.specs.Composition.{row_composition}
use Rattle.compose_fast.proofs.fast.Fast.compose_base.Given as goal

abbrev pub invariant-loop-h : goal.invariant-loop-h
invariant-loop-h l = record {
  all : l.all ≡ row_composition l.self l.r (l.fn.b % 2 ^ (4 * l.h));
  rest : l.rest ≡ l.fn.b / 2 ^ (4 * l.h);
}
