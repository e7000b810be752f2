use Rattle.std.proofs.Common.{option_map}
use Rattle.std.proofs.lemmas.Result.{err_from_is_err_and}
use Rattle.std.specs.String.{string_bytes}
use Rattle.qsr_words.specs.Requests.{solve_of}
use Rattle.qsr_inputs.proofs.GivenSearches.{guide_stops, polygons_stop, searched_fetched}
use Rattle.qsr_inputs.proofs.OnRcc8.{on_rcc8_where}
use Rattle.qsr_inputs.proofs.searches.read_searched.Goals as goal

pub returns-in_err-guided-clause-given : goal.returns-in_err-guided-clause-given
returns-in_err-guided-clause-given g c =
    let p = err_from_is_err_and c.from_residual.result c.from_residual.ensures.1 in
    rw (p.1, p.2) (guide_stops g.F.Source.documents g.F.Source.faults g.F.Source.given g.F.Source.absent_openings (solve_of c.args.request.now)
    c.args.shelf.now c.calculus_and_class.new.shelf c.in_err-guided.field-0.0 (rw (c.as_str.ensures.value, c.as_str-2.ensures.value) at c.in_err-guided.ensures.guided))

pub returns-in_err-polygons-clause-given : goal.returns-in_err-polygons-clause-given
returns-in_err-polygons-clause-given g c =
    let p = err_from_is_err_and c.from_residual-in_err-polygons.result c.from_residual-in_err-polygons.ensures.1 in
    rw (p.1, p.2) (polygons_stop g.F.Source.documents g.F.Source.faults g.F.Source.given g.F.Source.absent_openings (solve_of c.args.request.now)
    c.args.shelf.now c.calculus_and_class.new.shelf c.polygons_asked.new.shelf c.in_ok-guided.guided (rw (c.as_str.ensures.value, c.as_str-2.ensures.value) at c.in_ok-guided.ensures.guided)
    c.in_err-polygons.field-0.0 c.in_err-polygons.ensures)

pub returns-clause-given : goal.returns-clause-given
returns-clause-given g c =
    searched_fetched g.F.Source.documents g.F.Source.faults g.F.Source.given g.F.Source.absent_openings (solve_of c.args.request.now)
    c.args.shelf.now c.calculus_and_class.new.shelf c.polygons_asked.new.shelf c.in_ok-guided.guided (rw (c.as_str.ensures.value, c.as_str-2.ensures.value) at c.in_ok-guided.ensures.guided)
    c.in_ok-polygons.polygons c.in_ok-polygons.ensures

pub returns-clause-rcc8 : goal.returns-clause-rcc8
returns-clause-rcc8 g c =
    on_rcc8_where (string_bytes c.args.request.now.calculus) (g.F.Source.documents c.args.shelf.now) c.in_ok-guided.guided.calculus (option_map string_bytes c.args.request.now.polygons)
    c.in_ok-polygons.polygons (g.F.Source.documents c.calculus_and_class.new.shelf) c.requires.polygons (rw c.as_str.ensures.value at c.in_ok-guided.ensures.rcc8)
    c.in_ok-polygons.ensures.value
