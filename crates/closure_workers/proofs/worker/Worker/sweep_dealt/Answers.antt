use Rattle.closure_workers.proofs.Working.{WorksOn-trans}
use Rattle.closure_workers.proofs.worker.Worker.sweep_dealt.Goals as goal

pub loop-turn-preserved : goal.loop-turn-preserved
loop-turn-preserved g c =
    let t = c.args.site.now.table.now in
    record {
      works_on = WorksOn-trans t _ _ _ c.loop-turn.invariant.works_on (WorksOn-trans t _ _ _ c.read_news.ensures.works_on c.sweep_row.ensures.works_on);
    }

pub returns-then-not-sweep_row : goal.returns-then-not-sweep_row
returns-then-not-sweep_row g c =
    let t = c.args.site.now.table.now in
    record {
      works_on = WorksOn-trans t _ _ _ c.loop-turn.invariant.works_on (WorksOn-trans t _ _ _ c.read_news.ensures.works_on c.sweep_row.ensures.works_on);
    }
