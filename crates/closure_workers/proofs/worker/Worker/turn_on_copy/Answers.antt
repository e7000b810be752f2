use Rattle.closure_workers.proofs.Working.{WorksOn-trans}
use Rattle.closure_workers.proofs.worker.Worker.turn_on_copy.Goals as goal

pub returns-then-sweep-clause-works_on : goal.returns-then-sweep-clause-works_on
returns-then-sweep-clause-works_on g c =
    let t = c.args.site.now.table.now in
    WorksOn-trans t _ c.sweep.new.self _ (WorksOn-trans t _ c.begin.new.self _ c.begin.ensures.works_on c.sweep.ensures.works_on) c.take_turns-then-sweep.ensures.works_on
