use Rattle.poly_exact.specs.Small.{place}
use Rattle.poly_exact.specs.Checks.{IsParity}
use Rattle.poly_exact.proofs.checks.is_odd_after.Given as goal

abbrev pub invariant-loop-k : goal.invariant-loop-k
invariant-loop-k l = IsParity l.vs (place l.p) l.k l.odd
