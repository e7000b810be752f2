use Rattle.edge_table.specs.Opening.{algebra_of}
use Rattle.slice_copy.specs.Copies.{IsSettledCopy}
use Rattle.closure_workers.specs.Workers.{WorksOn}
use Rattle.closure_workers.proofs.worker.Worker.take_turns.Given as goal

abbrev pub invariant-loop-turn : goal.invariant-loop-turn
invariant-loop-turn g l = record {
  works_on : WorksOn l.site.table.now l.fn.self l.self;
  settled : IsSettledCopy (algebra_of l.site.table.now.opening) l.self.desk.copy;
}
