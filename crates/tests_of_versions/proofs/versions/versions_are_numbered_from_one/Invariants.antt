use Rattle.std.proofs.Common.{◌≡◌}
use Rattle.tests_of_versions.proofs.versions.versions_are_numbered_from_one.Given as goal

abbrev pub invariant-loop-number : goal.invariant-loop-number
invariant-loop-number g l = record { nodes : l.store.nodes ≡ 2; calculus : l.store.calculus ≡ l.initial.store.calculus }
