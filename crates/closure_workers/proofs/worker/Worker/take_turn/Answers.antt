use Rattle.std.proofs.Common.{refl}
use Rattle.closure_workers.proofs.Working.{WorksOn-trans, WorksOn-from}
use Rattle.closure_workers.proofs.worker.Worker.take_turn.Goals as goal

pub returns-then-is_due-clause-works_on : goal.returns-then-is_due-clause-works_on
returns-then-is_due-clause-works_on g c =
    let t = c.args.site.now.table.now in
    WorksOn-trans t _ c.follow.new.self _ (WorksOn-from t c.args.self.now _ _ c.follow.ensures.works_on refl refl refl) c.read_news.ensures.works_on

pub returns-then-read_on-clause-works_on : goal.returns-then-read_on-clause-works_on
returns-then-read_on-clause-works_on g c =
    let t = c.args.site.now.table.now in
    WorksOn-trans t _ c.follow.new.self _ (WorksOn-from t c.args.self.now _ _ c.follow.ensures.works_on refl refl refl) c.read_on.ensures.works_on

pub returns-clause-works_on : goal.returns-clause-works_on
returns-clause-works_on g c =
    let t = c.args.site.now.table.now in
    WorksOn-trans t _ c.read_on.new.self _
    (WorksOn-trans t _ c.follow.new.self _ (WorksOn-from t c.args.self.now _ _ c.follow.ensures.works_on refl refl refl) c.read_on.ensures.works_on)
    c.compare.ensures.works_on
