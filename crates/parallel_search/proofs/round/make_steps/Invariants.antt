use Rattle.std.proofs.Common.{◌≡◌}
use Rattle.split_search.specs.Searches.{task_of}
use Rattle.split_search.specs.Walks.{IsWalk}
use Rattle.parallel_search.proofs.round.make_steps.Given as goal

abbrev pub invariant-loop-step : goal.invariant-loop-step
invariant-loop-step g l = record {
  walk : IsWalk l.walk;
  task : task_of l.walk.search ≡ task_of l.initial.walk.search;
}
