use Rattle.std.proofs.Common.{ℕ, ◌<◌, ◌≤◌}
use Rattle.std.specs.Prelude.{slice_index}
use Rattle.tract_classes.specs.Turned.{HasLookedUp}
use Rattle.tract_classes.proofs.compositions.has_looked_up.Given as goal

abbrev pub invariant-loop-j : goal.invariant-loop-j
invariant-loop-j l = (i : ℕ) → l.from ≤ i → i < l.j → HasLookedUp l.class l.low l.high (slice_index l.class i)
