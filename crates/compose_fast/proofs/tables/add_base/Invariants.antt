use Rattle.std.proofs.Common.{◌≡◌, ℕ, ◌+◌, ◌*◌, ◌<◌, ◌≤◌}
use Rattle.std.specs.Prelude.{slice_index, bit_or}
use Rattle.compose_fast.proofs.tables.add_base.Given as goal

abbrev pub invariant-loop-p : goal.invariant-loop-p
invariant-loop-p g l = record {
  here : (q d : ℕ) → q < l.p → d < 32 * g.row.P →
      slice_index l.set (256 * q + d) ≡ bit_or (slice_index l.initial.set (256 * q + d)) (slice_index l.bases (2048 * l.r + 256 * q + d));
  after : (e : ℕ) → 256 * l.p ≤ e → slice_index l.set e ≡ slice_index l.initial.set e;
}
