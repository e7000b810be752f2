use Rattle.poly_exact.specs.Small.{place}
use Rattle.poly_exact.specs.Checks.{IsParity}
use Rattle.poly_exact.specs.Rects.{block_start}
use Rattle.poly_exact.proofs.checks.is_odd.Given as goal

abbrev pub invariant-loop-b : goal.invariant-loop-b
invariant-loop-b l = IsParity l.vs (place l.p) (block_start l.vs l.b) l.odd
