use Rattle.std.proofs.Common.{◌≡◌}
use Rattle.tests_of_versions.proofs.versions.store_of.Given as goal

abbrev pub invariant-loop-version : goal.invariant-loop-version
invariant-loop-version l = record { nodes : l.store.nodes ≡ 2; calculus : l.store.calculus ≡ l.c.algebra }
