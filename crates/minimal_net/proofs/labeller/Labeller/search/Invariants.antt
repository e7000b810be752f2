use Rattle.std.proofs.Common.{◌≡◌}
use Rattle.std.specs.Prelude.{MatchOption}
use Rattle.minimal_net.specs.declared.outcome.Outcome.{Outcome}
use Rattle.minimal_net.specs.Searching.{task_of, SearchesChild, SearchesOn, work_left}
use Rattle.minimal_net.proofs.labeller.Labeller.search.Given as goal

abbrev pub invariant-loop-found : goal.invariant-loop-found
invariant-loop-found l = record {
  task : task_of l.self ≡ task_of l.fn.self;
  found : (o : Outcome) → SearchesChild l.fn.self o → MatchOption l.found (SearchesOn l.self o) (λ outcome. o ≡ outcome);
}

abbrev pub decreases-loop-found : goal.decreases-loop-found
decreases-loop-found l = work_left l.self
