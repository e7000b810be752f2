use Rattle.std.proofs.Common.{◌≡◌, ℕ, ◌<◌, length}
use Rattle.std.specs.Prelude.{slice_index}
use Rattle.compose_fast.specs.Nibbles.{row_entry}
use Rattle.compose_fast.proofs.fast.rows_of.Given as goal

abbrev pub invariant-loop-e : goal.invariant-loop-e
invariant-loop-e g l = record {
  length_is : length l.rows.items ≡ l.e;
  each : (d : ℕ) → d < l.e → slice_index l.rows.items d ≡ row_entry (g.C.Compose.algebra l.c) d;
}
