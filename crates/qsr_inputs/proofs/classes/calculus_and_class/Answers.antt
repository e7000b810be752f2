use Rattle.std.proofs.lemmas.Result.{err_from_is_err_and}
use Rattle.qsr_inputs.proofs.Guides.{calculus_stops, class_stops, fitting_rcc8, guided_fetched}
use Rattle.qsr_inputs.proofs.OnRcc8.{is_rcc8}
use Rattle.qsr_inputs.proofs.classes.calculus_and_class.Goals as goal

pub class-requires : goal.class-requires
class-requires g c = λ e. fitting_rcc8 c.args.word.now _ c.in_ok-calculus.calculus c.args.class_word.now c.requires c.in_ok-calculus.ensures.value e

pub returns-in_err-calculus-clause-guided : goal.returns-in_err-calculus-clause-guided
returns-in_err-calculus-clause-guided g c =
    let p = err_from_is_err_and c.from_residual.result c.from_residual.ensures.1 in
    rw (p.1, p.2) (calculus_stops g.F.Source.documents g.F.Source.faults g.F.Source.given g.F.Source.absent_openings c.args.word.now c.args.class_word.now
    c.args.shelf.now c.calculus.new.shelf c.in_err-calculus.field-0.0 c.in_err-calculus.ensures)

pub returns-in_err-class-clause-guided : goal.returns-in_err-class-clause-guided
returns-in_err-class-clause-guided g c =
    let p = err_from_is_err_and c.from_residual-in_err-class.result c.from_residual-in_err-class.ensures.1 in
    rw (p.1, p.2) (class_stops g.F.Source.documents g.F.Source.faults g.F.Source.given g.F.Source.absent_openings c.args.word.now c.args.class_word.now
    c.args.shelf.now c.calculus.new.shelf c.class.new.shelf c.in_ok-calculus.calculus c.in_ok-calculus.ensures c.in_err-class.field-0.0 c.in_err-class.ensures.class)

pub returns-clause-guided : goal.returns-clause-guided
returns-clause-guided g c =
    guided_fetched g.F.Source.documents g.F.Source.faults g.F.Source.given g.F.Source.absent_openings c.args.word.now c.args.class_word.now
    c.args.shelf.now c.calculus.new.shelf c.class.new.shelf c.in_ok-calculus.calculus c.in_ok-calculus.ensures c.in_ok-class.class c.in_ok-class.ensures.class

pub returns-clause-rcc8 : goal.returns-clause-rcc8
returns-clause-rcc8 g c = λ e. is_rcc8 c.args.word.now _ c.in_ok-calculus.calculus c.in_ok-calculus.ensures.value e
