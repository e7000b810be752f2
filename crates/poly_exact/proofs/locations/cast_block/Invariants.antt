use Rattle.poly_exact.specs.Small.{place}
use Rattle.poly_exact.specs.Located.{IsPassedBy}
use Rattle.poly_exact.proofs.locations.cast_block.Given as goal

abbrev pub invariant-loop-k : goal.invariant-loop-k
invariant-loop-k l = IsPassedBy l.vs (place l.p) l.k l.odd
