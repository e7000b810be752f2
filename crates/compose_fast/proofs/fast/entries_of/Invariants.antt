use Rattle.std.proofs.Common.{◌≡◌, ℕ, ◌<◌, length}
use Rattle.std.specs.Prelude.{slice_index}
use Rattle.compose_fast.proofs.fast.entries_of.Given as goal

abbrev pub invariant-loop-e : goal.invariant-loop-e
invariant-loop-e g l = record {
  length_is : length l.entries.items ≡ l.e;
  each : (d : ℕ) → d < l.e → slice_index l.entries.items d ≡ slice_index (g.C.Compose.algebra l.c).table d;
}
