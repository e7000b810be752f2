use Rattle.std.proofs.Common.{◌≡◌}
use Rattle.edge_table.specs.Opening.{algebra_of}
use Rattle.slice_copy.specs.Copies.{IsSweptCopy}
use Rattle.closure_workers.specs.Workers.{WorksOn}
use Rattle.closure_workers.proofs.worker.Worker.sweep_slice.Given as goal

abbrev pub invariant-loop-i : goal.invariant-loop-i
invariant-loop-i g l = record {
  works_on : WorksOn l.site.table.now l.fn.self l.self;
  swept : IsSweptCopy (algebra_of l.site.table.now.opening) l.self.desk.copy l.i;
  first : l.self.desk.copy.rows.first ≡ l.first;
  last : l.self.desk.copy.rows.end ≡ l.end;
}
