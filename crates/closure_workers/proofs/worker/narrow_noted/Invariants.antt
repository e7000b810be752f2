use Rattle.closure_workers.specs.Slices.{LooksOn}
use Rattle.closure_workers.proofs.worker.narrow_noted.Given as goal

abbrev pub invariant-loop-note : goal.invariant-loop-note
invariant-loop-note g l = record { looks_on : LooksOn l.site.table.now l.fn.pass l.pass l.snap }
