use Rattle.std.proofs.Common.{◌≡◌}
use Rattle.split_search.specs.Searches.{task_of, work_left}
use Rattle.split_search.specs.Walks.{IsWalk}
use Rattle.split_search.proofs.walking.Walk.run_out.Given as goal

abbrev pub invariant-loop-split : goal.invariant-loop-split
invariant-loop-split l = record {
  walk : IsWalk l.self;
  task : task_of l.self.search ≡ task_of l.initial.self.search;
}

abbrev pub decreases-loop-split : goal.decreases-loop-split
decreases-loop-split l = work_left l.self.search
