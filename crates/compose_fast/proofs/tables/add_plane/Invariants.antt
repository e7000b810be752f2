use Rattle.std.proofs.Common.{◌+◌, ◌*◌}
use Rattle.std.specs.Prelude.{slice_index, bit_or}
use Rattle.compose_fast.proofs.Stores.{IsPlaneBelow}
use Rattle.compose_fast.proofs.tables.add_plane.Given as goal

abbrev pub invariant-loop-u : goal.invariant-loop-u
invariant-loop-u g l =
    IsPlaneBelow l.initial.set l.set (λ e. bit_or (slice_index l.initial.set (256 * l.p + e)) (slice_index l.bases (2048 * l.r + 256 * l.p + e))) l.p (16 * l.u)
