use Rattle.edge_table.specs.Opening.{algebra_of}
use Rattle.slice_copy.proofs.Copies.{TakesOver-trans}
use Rattle.closure_workers.proofs.Working.{WorksOn-trans}
use Rattle.closure_workers.proofs.worker.Worker.read_on.Goals as goal

pub loop-time-preserved : goal.loop-time-preserved
loop-time-preserved g c = record {
  works_on = WorksOn-trans c.args.site.now.table.now _ _ _ c.loop-time.invariant.works_on c.read_news.ensures.works_on;
  copy = TakesOver-trans (algebra_of c.args.site.now.table.now.opening) _ _ _ c.loop-time.invariant.copy c.read_news.ensures.copy;
}

pub returns-then-read_news-clause-works_on : goal.returns-then-read_news-clause-works_on
returns-then-read_news-clause-works_on g c = WorksOn-trans c.args.site.now.table.now _ _ _ c.loop-time.invariant.works_on c.read_news.ensures.works_on

pub returns-then-read_news-clause-copy : goal.returns-then-read_news-clause-copy
returns-then-read_news-clause-copy g c = TakesOver-trans (algebra_of c.args.site.now.table.now.opening) _ _ _ c.loop-time.invariant.copy c.read_news.ensures.copy

pub returns-then-are_quiet-clause-works_on : goal.returns-then-are_quiet-clause-works_on
returns-then-are_quiet-clause-works_on g c = WorksOn-trans c.args.site.now.table.now _ _ _ c.loop-time.invariant.works_on c.read_news.ensures.works_on

pub returns-then-are_quiet-clause-copy : goal.returns-then-are_quiet-clause-copy
returns-then-are_quiet-clause-copy g c = TakesOver-trans (algebra_of c.args.site.now.table.now.opening) _ _ _ c.loop-time.invariant.copy c.read_news.ensures.copy
