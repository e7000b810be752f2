use Rattle.closure_workers.specs.Workers.{WorksOn}
use Rattle.closure_workers.proofs.worker.Worker.sweep.Given as goal

abbrev pub invariant-loop-time : goal.invariant-loop-time
invariant-loop-time g l = record { works_on : WorksOn l.site.table.now l.fn.self l.self }
