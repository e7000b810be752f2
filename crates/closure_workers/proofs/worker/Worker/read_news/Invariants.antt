use Rattle.edge_table.specs.Opening.{algebra_of}
use Rattle.slice_copy.specs.Copies.{TakesOver}
use Rattle.closure_workers.specs.Workers.{WorksOn}
use Rattle.closure_workers.proofs.worker.Worker.read_news.Given as goal

abbrev pub invariant-loop-i : goal.invariant-loop-i
invariant-loop-i g l = record {
  works_on : WorksOn l.site.table.now l.fn.self l.self;
  copy : TakesOver (algebra_of l.site.table.now.opening) l.fn.self.desk.copy l.self.desk.copy;
}
