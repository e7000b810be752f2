use Rattle.parallel_search.specs.Jobs.{IsWalkBy}
use Rattle.parallel_search.proofs.job.make_steps.Given as goal

abbrev pub invariant-loop-step : goal.invariant-loop-step
invariant-loop-step g l = IsWalkBy (g.C.Compose.algebra l.site.c.now) l.site.nodes l.site.class.now l.walk
