use Rattle.std.proofs.Common.{ℕ, ◌<◌}
use Rattle.tract_classes.specs.Class.{HasBase}
use Rattle.tests_of_labels.proofs.nets.has_bases.Given as goal

abbrev pub invariant-loop-r : goal.invariant-loop-r
invariant-loop-r l = (q : ℕ) → q < l.r → HasBase l.class q
