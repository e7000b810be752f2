use Rattle.parallel_search.specs.Jobs.{IsAhead}
use Rattle.parallel_search.proofs.ahead.Ahead.keep_all.Given as goal

abbrev pub invariant-loop-job : goal.invariant-loop-job
invariant-loop-job g l = IsAhead (g.C.Compose.algebra l.site.c.now) l.site.nodes l.site.class.now l.self
