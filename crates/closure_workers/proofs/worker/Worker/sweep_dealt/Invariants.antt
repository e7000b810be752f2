use Rattle.closure_workers.specs.Workers.{WorksOn}
use Rattle.closure_workers.proofs.worker.Worker.sweep_dealt.Given as goal

abbrev pub invariant-loop-turn : goal.invariant-loop-turn
invariant-loop-turn g l = record { works_on : WorksOn l.site.table.now l.fn.self l.self }
