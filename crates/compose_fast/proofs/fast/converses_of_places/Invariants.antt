use Rattle.std.proofs.Common.{◌≡◌, ℕ, ◌<◌, length}
use Rattle.std.specs.Prelude.{slice_index}
use Rattle.compose_fast.specs.Nibbles.{converse_of_place}
use Rattle.compose_fast.proofs.fast.converses_of_places.Given as goal

abbrev pub invariant-loop-d : goal.invariant-loop-d
invariant-loop-d g l = record {
  length_is : length l.places.items ≡ l.d;
  each : (e : ℕ) → e < l.d → slice_index l.places.items e ≡ converse_of_place (g.C.Compose.algebra l.c) e;
}
