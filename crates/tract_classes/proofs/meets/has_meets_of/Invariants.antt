use Rattle.std.proofs.Common.{ℕ, ◌<◌}
use Rattle.std.specs.Prelude.{slice_index}
use Rattle.tract_classes.specs.Class.{HasMeet}
use Rattle.tract_classes.proofs.meets.has_meets_of.Given as goal

abbrev pub invariant-loop-set : goal.invariant-loop-set
invariant-loop-set l = (k : ℕ) → k < l.set-index → HasMeet l.class l.a (slice_index l.sets k)
