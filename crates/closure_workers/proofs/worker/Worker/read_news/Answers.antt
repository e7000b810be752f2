use Rattle.std.proofs.Common.{refl, ap, sym, subst}
use Rattle.edge_table.specs.Opening.{algebra_of}
use Rattle.slice_copy.specs.Copies.{TakesOver}
use Rattle.slice_copy.proofs.Copies.{TakesOver-trans}
use Rattle.closure_workers.specs.declared.worker.Worker.{Worker}
use Rattle.closure_workers.proofs.Working.{WorksOn-trans, WorksOn-from, WorksOn-to}
use Rattle.closure_workers.proofs.worker.Worker.read_news.Goals as goal
use Rattle.closure_workers.proofs.worker.Worker.read_news.Goals.{then-is_new, else-is_new}

pub loop-i-preserved : goal.loop-i-preserved
loop-i-preserved g c =
    let t = c.args.site.now.table.now in
    let m = algebra_of t.opening in
    let before = c.loop-i.invariant in
    elim c.if-is_new.branch [
      | then-is_new w ↦ rw w.self-is (record {
        works_on = WorksOn-trans t c.args.self.now c.loop-i.self _ before.works_on (WorksOn-from t c.loop-i.self _ _ w.read_row-less.ensures.works_on refl refl refl);
        copy = TakesOver-trans m _ _ _ before.copy w.read_row-less.ensures.copy;
      })
      | else-is_new w ↦ (record {
        works_on = WorksOn-to t c.args.self.now c.loop-i.self _ before.works_on (ap (λ (x : Worker). x.pass) w.self-is) (ap (λ (x : Worker). x.desk) w.self-is);
        copy = subst (λ (x : Worker). TakesOver m c.args.self.now.desk.copy x.desk.copy) (sym w.self-is) before.copy;
      })
    ]
