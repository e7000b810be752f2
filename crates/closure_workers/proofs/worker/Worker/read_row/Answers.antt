use Rattle.std.proofs.Common.{refl, subst, arith}
use Rattle.calculus_table.specs.Algebra.{Algebra}
use Rattle.edge_table.specs.Opening.{algebra_of}
use Rattle.edge_table.proofs.Passes.{GoesOn-reads_some}
use Rattle.slice_copy.specs.Copies.{TakesOver}
use Rattle.slice_copy.proofs.Copies.{TakesOver-trans}
use Rattle.closure_workers.proofs.Working.{WorksOn-trans, WorksOn-next}
use Rattle.closure_workers.proofs.worker.Worker.read_row.Goals as goal

pub loop-edge-preserved : goal.loop-edge-preserved
loop-edge-preserved g c =
    let t = c.args.site.now.table.now in
    let before = c.loop-edge.invariant in
    let e = c.next_lesser.ensures in
    let taken : TakesOver (algebra_of t.opening) c.loop-edge.self.desk.copy c.meet_at.new.self =
    subst (λ (m : Algebra). TakesOver m c.loop-edge.self.desk.copy c.meet_at.new.self) c.args.site.now.fits c.meet_at.ensures.copy in
    record {
      works_on = WorksOn-trans t c.args.self.now c.loop-edge.self _ before.works_on
          (WorksOn-next t c.loop-edge.self _ before.works_on.at_work
          (record { looking = record { pass = e.pass; snap = e.snap }; goes_on = GoesOn-reads_some _ c.loop-edge.self.pass c.next_lesser.new.pass e.reads })
          taken.is_open taken.slice refl refl);
      copy = TakesOver-trans (algebra_of t.opening) _ _ _ before.copy taken;
      order = (let from = c.in-Some.ensures.among.0 in let order = before.order in omega arith);
    }
