use Rattle.poly_exact.specs.Rects.{CoversEdges}
use Rattle.poly_exact.proofs.rects.edges_rect.Given as goal

abbrev pub invariant-loop-e : goal.invariant-loop-e
invariant-loop-e l = CoversEdges l.rect l.vs l.fn.from l.e
