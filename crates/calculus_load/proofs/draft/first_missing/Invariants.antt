use Rattle.std.proofs.Common.{◌≡◌, drop}
use Rattle.calculus_load.specs.Given.{first_missing, first_missing_from}
use Rattle.calculus_load.proofs.draft.first_missing.Given as goal

abbrev pub invariant-loop-place : goal.invariant-loop-place
invariant-loop-place g l = first_missing_from l.place (drop l.place l.given) ≡ first_missing l.given
