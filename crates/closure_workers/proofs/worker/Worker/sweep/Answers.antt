use Rattle.std.proofs.Common.{refl}
use Rattle.closure_workers.proofs.Working.{WorksOn-trans, WorksOn-from}
use Rattle.closure_workers.proofs.worker.Worker.sweep.Goals as goal

pub loop-time-preserved : goal.loop-time-preserved
loop-time-preserved g c =
    let t = c.args.site.now.table.now in
    record { works_on = WorksOn-trans t _ c.loop-time.self _ c.loop-time.invariant.works_on (WorksOn-from t c.loop-time.self _ _ c.sweep_slice.ensures.works_on refl refl refl) }

pub returns-then-not-sweep_slice-clause-works_on : goal.returns-then-not-sweep_slice-clause-works_on
returns-then-not-sweep_slice-clause-works_on g c =
    let t = c.args.site.now.table.now in
    WorksOn-trans t _ c.loop-time.self _ c.loop-time.invariant.works_on (WorksOn-from t c.loop-time.self _ _ c.sweep_slice.ensures.works_on refl refl refl)

pub returns-then-self-many-clause-works_on : goal.returns-then-self-many-clause-works_on
returns-then-self-many-clause-works_on g c =
    let t = c.args.site.now.table.now in
    WorksOn-trans t _ c.loop-time.self _ c.loop-time.invariant.works_on (WorksOn-from t c.loop-time.self _ _ c.sweep_slice.ensures.works_on refl refl refl)

pub returns-clause-works_on : goal.returns-clause-works_on
returns-clause-works_on g c = WorksOn-trans c.args.site.now.table.now _ _ _ c.loop-time.invariant.works_on c.sweep_slice-2.ensures.works_on
