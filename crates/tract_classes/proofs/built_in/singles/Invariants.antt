use Rattle.std.proofs.Common.{◌≡◌}
use Rattle.tract_classes.specs.BuiltIn.{singles}
use Rattle.tract_classes.proofs.built_in.singles.Given as goal

abbrev pub invariant-loop-r : goal.invariant-loop-r
invariant-loop-r l = l.sets.items ≡ singles l.r
