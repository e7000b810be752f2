use Rattle.std.proofs.Common.{◌≡◌, ℕ, ◌+◌, ◌*◌, ◌<◌}
use Rattle.std.specs.Prelude.{slice_index}
use Rattle.compose_fast.proofs.tables.clear.Given as goal

abbrev pub invariant-loop-p : goal.invariant-loop-p
invariant-loop-p g l = (q d : ℕ) → q < l.p → d < 32 * g.row.P → slice_index l.set (256 * q + d) ≡ 0
