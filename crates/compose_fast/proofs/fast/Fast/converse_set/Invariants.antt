use Rattle.std.proofs.Common.{◌≡◌, ◌*◌, ◌/◌, ◌%◌, ◌^◌}
use Rattle.calculus_table.specs.Composition.{converse}
use Rattle.compose_fast.proofs.fast.Fast.converse_set.Given as goal

abbrev pub invariant-loop-rest : goal.invariant-loop-rest
invariant-loop-rest l = record {
  all : l.all ≡ converse l.self (l.fn.a % 2 ^ (4 * l.h));
  rest : l.rest ≡ l.fn.a / 2 ^ (4 * l.h);
}

abbrev pub decreases-loop-rest : goal.decreases-loop-rest
decreases-loop-rest l = l.rest
