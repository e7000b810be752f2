use Rattle.std.proofs.Common.{◌+◌}
use Rattle.compose_fast.specs.Lanes.{HasLanes}
use Rattle.compose_fast.specs.Planes.{along_at}
use Rattle.compose_fast.proofs.tables.along_plane.Given as goal

abbrev pub invariant-loop-q : goal.invariant-loop-q
invariant-loop-q g l = HasLanes 16 l.all (λ k. along_at l.set l.bytes l.q l.p (l.at + k))
