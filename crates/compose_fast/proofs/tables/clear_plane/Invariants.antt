use Rattle.std.proofs.Common.{◌*◌}
use Rattle.compose_fast.proofs.Stores.{IsPlaneBelow}
use Rattle.compose_fast.proofs.tables.clear_plane.Given as goal

abbrev pub invariant-loop-u : goal.invariant-loop-u
invariant-loop-u g l = IsPlaneBelow l.initial.set l.set (λ _. 0) l.p (16 * l.u)
