use Rattle.std.proofs.Common.{◌≡◌, ℕ, ◌<◌, length}
use Rattle.std.specs.Prelude.{slice_index}
use Rattle.calculus_table.specs.Algebra.{converse_at}
use Rattle.compose_fast.proofs.fast.converses_of.Given as goal

abbrev pub invariant-loop-r : goal.invariant-loop-r
invariant-loop-r g l = record {
  length_is : length l.converses.items ≡ l.r;
  each : (q : ℕ) → q < l.r → slice_index l.converses.items q ≡ converse_at (g.C.Compose.algebra l.c) q;
}
