use Rattle.std.proofs.Common.{◌≡◌, length}
use Rattle.tests_of_calculi.proofs.compositions.product_names.Given as goal

abbrev pub invariant-loop-r : goal.invariant-loop-r
invariant-loop-r l = length l.names.items ≡ l.r-counter
