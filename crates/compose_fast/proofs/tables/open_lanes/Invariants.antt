use Rattle.std.proofs.Common.{◌+◌, ◌*◌}
use Rattle.std.specs.Prelude.{slice_index}
use Rattle.compose_fast.specs.Planes.{along_at}
use Rattle.compose_fast.proofs.PlaneLemmas.{AreGapsBelow}
use Rattle.compose_fast.proofs.tables.open_lanes.Given as goal

abbrev pub invariant-loop-p : goal.invariant-loop-p
invariant-loop-p g l = AreGapsBelow (λ p k. slice_index l.bytes (256 * p + (l.here + k))) (λ p k. along_at l.set l.bytes g.row.P p (l.there + k)) l.gaps l.p
