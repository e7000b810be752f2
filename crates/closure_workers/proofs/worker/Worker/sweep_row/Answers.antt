use Rattle.std.proofs.Common.{◌+◌, subst, sym}
use Rattle.calculus_table.specs.Algebra.{Algebra}
use Rattle.slice_copy.specs.Copies.{IsSweptCopy}
use Rattle.closure_workers.proofs.worker.Worker.sweep_row.Goals as goal

pub returns-clause-swept : goal.returns-clause-swept
returns-clause-swept g c = λ going whole before.
    let fits = c.args.site.now.fits in
    c.follow.ensures.copy.swept (c.args.i + 1)
    (subst (λ (m : Algebra). IsSweptCopy m c.sweep_rows-going_on.new.self (c.args.i + 1)) fits
    (c.sweep_rows-going_on.ensures.swept going whole (subst (λ (m : Algebra). IsSweptCopy m c.args.self.now.desk.copy c.args.i) (sym fits) before)))
