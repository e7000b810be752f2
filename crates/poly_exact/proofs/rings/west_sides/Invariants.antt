use Rattle.poly_exact.specs.Built.{AreFlags}
use Rattle.poly_exact.proofs.rings.west_sides.Given as goal

abbrev pub invariant-loop-e : goal.invariant-loop-e
invariant-loop-e l = AreFlags l.vs l.west.items l.e
