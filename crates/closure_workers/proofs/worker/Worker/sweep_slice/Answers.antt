use Rattle.std.proofs.Common.{◌≡◌, ◌≤◌, ℕ, refl, ap, subst, ◌∙◌, arith}
use Rattle.edge_propagation.specs.Propagation.{IsSettled}
use Rattle.edge_propagation.specs.declared.span.Span.{Span}
use Rattle.edge_table.specs.Opening.{algebra_of}
use Rattle.closure_workers.proofs.Working.{WorksOn-trans}
use Rattle.closure_workers.proofs.worker.Worker.sweep_slice.Goals as goal

pub loop-i-preserved : goal.loop-i-preserved
loop-i-preserved g c =
    let before = c.loop-i.invariant in
    let rows = c.sweep_row.ensures.rows in
    record {
      works_on = WorksOn-trans c.args.site.now.table.now _ _ _ before.works_on c.sweep_row.ensures.works_on;
      swept = c.sweep_row.ensures.swept c.if-not-sweep_row.false refl before.swept;
      first = ap (λ (r : Span). r.first) rows ∙ before.first;
      last = ap (λ (r : Span). r.end) rows ∙ before.last;
    }

pub returns-then-not-sweep_row-clause-works_on : goal.returns-then-not-sweep_row-clause-works_on
returns-then-not-sweep_row-clause-works_on g c = WorksOn-trans c.args.site.now.table.now _ _ _ c.loop-i.invariant.works_on c.sweep_row.ensures.works_on

pub returns-clause-settled : goal.returns-clause-settled
returns-clause-settled g c = λ _.
    let m = algebra_of c.args.site.now.table.now.opening in
    let now = c.loop-i.invariant in
    let copy = c.loop-i.self.desk.copy in
    let order : copy.rows.first ≤ copy.rows.end = now.swept.is_open.rows.order in
    let end : c.loop-i.i ≡ copy.rows.end = (let f = now.first in let l = now.last in let a = c.loop-i.auto.i-end in let t = c.loop-i-test.false in omega (arith, order, f, l, a, t)) in
    record {
      is_open = now.swept.is_open;
      settled = subst (λ (k : ℕ). IsSettled m (record { first = copy.rows.first; end = k }) copy.work) end now.swept.settled;
    }
