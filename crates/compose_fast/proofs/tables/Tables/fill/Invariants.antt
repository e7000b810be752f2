use Rattle.std.proofs.Common.{◌≡◌, ℕ, ◌+◌, ◌*◌, ◌<◌}
use Rattle.std.specs.Prelude.{slice_index}
use Rattle.compose_fast.specs.Nibbles.{byte, composition_at}
use Rattle.compose_fast.proofs.tables.Tables.fill.Given as goal

abbrev pub invariant-loop-e : goal.invariant-loop-e
invariant-loop-e g l = (r p d : ℕ) → r < (g.C.Compose.algebra l.c).size → p < g.row.P → d < 32 * g.row.P → 256 * r + d < l.e →
    slice_index l.bases (2048 * r + 256 * p + d) ≡ byte (composition_at (g.C.Compose.algebra l.c) r d) p
