use Rattle.std.proofs.Common.{◌≡◌}
use Rattle.parallel_search.proofs.ahead.take_job.Given as goal

abbrev pub invariant-loop-k : goal.invariant-loop-k
invariant-loop-k g l = l.jobs.items ≡ l.initial.jobs.items
