use Rattle.std.proofs.Common.{◌≡◌}
use Rattle.split_search.specs.Searches.{task_of}
use Rattle.parallel_search.specs.Jobs.{IsCrew}
use Rattle.parallel_search.proofs.parallel.search.Given as goal

abbrev pub invariant-loop-turn : goal.invariant-loop-turn
invariant-loop-turn g l = record {
  crew : IsCrew (g.C.Compose.algebra l.site.c.now) l.site.nodes l.site.class.now l.crew;
  task : task_of l.crew.root.search ≡ task_of l.initial.crew.root.search;
}
