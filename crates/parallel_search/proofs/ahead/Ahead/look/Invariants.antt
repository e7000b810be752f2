use Rattle.parallel_search.specs.Jobs.{IsAhead}
use Rattle.parallel_search.proofs.ahead.Ahead.look.Given as goal

abbrev pub invariant-loop-child : goal.invariant-loop-child
invariant-loop-child g l = IsAhead (g.C.Compose.algebra l.site.c.now) l.site.nodes l.site.class.now l.self
