use Rattle.std.proofs.Common.{ℕ, ◌+◌, ◌*◌, ◌<◌}
use Rattle.std.specs.Prelude.{slice_index}
use Rattle.calculus_table.proofs.Unions.{IsUnionBut}
use Rattle.compose_fast.proofs.tables.Tables.take.Given as goal

abbrev pub invariant-loop-bases : goal.invariant-loop-bases
invariant-loop-bases g l = (p d : ℕ) → p < g.row.P → d < 32 * g.row.P →
    IsUnionBut (g.C.Compose.algebra l.c).size (λ r. slice_index l.bases (2048 * r + 256 * p + d)) l.fn.a l.left (slice_index l.set (256 * p + d))

abbrev pub decreases-loop-bases : goal.decreases-loop-bases
decreases-loop-bases g l = l.left
