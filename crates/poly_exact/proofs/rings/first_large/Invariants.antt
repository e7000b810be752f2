use Rattle.poly_exact.specs.Built.{AreSmallTo}
use Rattle.poly_exact.proofs.rings.first_large.Given as goal

abbrev pub invariant-loop-k : goal.invariant-loop-k
invariant-loop-k l = AreSmallTo l.vs l.k
