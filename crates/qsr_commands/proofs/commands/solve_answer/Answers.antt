use Rattle.std.proofs.Common.{refl}
use Rattle.std.proofs.lemmas.Result.{err_from_is_err_and}
use Rattle.qsr_words.specs.Asked.{solve}
use Rattle.qsr_words.specs.Requests.{solve_of}
use Rattle.qsr_inputs.specs.Inputs.{Searched}
use Rattle.qsr_commands.proofs.CommandAnswers.{given_stopped, read_stopped, read_answered, read_memory}
use Rattle.qsr_commands.proofs.commands.solve_answer.Goals as goal

pub returns-in_err-searched : goal.returns-in_err-searched
returns-in_err-searched g c =
    let p = err_from_is_err_and c.from_residual.result c.from_residual.ensures.1 in
    rw (p.1, p.2) (given_stopped g.F.Source.documents g.F.Source.faults g.F.Source.given g.F.Source.absent_openings g.S.Source.left g.S.Source.faults g.S.Source.given
    (solve (solve_of c.args.request.now)) refl c.args.shelf.now c.read_searched.new.shelf c.args.source.now c.in_err-searched.field-0.0 c.in_err-searched.ensures.given)

pub returns-in_err-net : goal.returns-in_err-net
returns-in_err-net g c =
    let p = err_from_is_err_and c.from_residual-in_err-net.result c.from_residual-in_err-net.ensures.1 in
    let given : Searched = record { guided = record { calculus = c.guided.inside.calculus; class = c.guided.inside.class }; polygons = c.searched.inside.polygons } in
    let known = rw (← c.guided.view_is) at (rw (← c.searched.view_is) at c.in_ok-searched.ensures.given) in
    rw (p.1, p.2) (read_stopped g.F.Source.documents g.F.Source.faults g.F.Source.given g.F.Source.absent_openings g.S.Source.left g.S.Source.faults g.S.Source.given
    (solve (solve_of c.args.request.now)) refl c.args.shelf.now c.read_searched.new.shelf c.args.source.now c.placed_network.new.source given known
    c.in_err-net.field-0.0 c.in_err-net.ensures.source)

pub returns-in-Ok : goal.returns-in-Ok
returns-in-Ok g c =
    let given : Searched = record { guided = record { calculus = c.guided.inside.calculus; class = c.guided.inside.class }; polygons = c.searched.inside.polygons } in
    let known = rw (← c.guided.view_is) at (rw (← c.searched.view_is) at c.in_ok-searched.ensures.given) in
    read_answered g.F.Source.documents g.F.Source.faults g.F.Source.given g.F.Source.absent_openings g.S.Source.left g.S.Source.faults g.S.Source.given
    (solve (solve_of c.args.request.now)) refl c.args.shelf.now c.read_searched.new.shelf c.args.source.now c.placed_network.new.source given known
    c.in_ok-net.net c.in_ok-net.ensures.source refl c.in-Ok.answer (rw (← c.guided.view_is) at c.in-Ok.ensures)

pub returns : goal.returns
returns g c =
    let given : Searched = record { guided = record { calculus = c.guided.inside.calculus; class = c.guided.inside.class }; polygons = c.searched.inside.polygons } in
    let known = rw (← c.guided.view_is) at (rw (← c.searched.view_is) at c.in_ok-searched.ensures.given) in
    read_memory g.F.Source.documents g.F.Source.faults g.F.Source.given g.F.Source.absent_openings g.S.Source.left g.S.Source.faults g.S.Source.given
    (solve (solve_of c.args.request.now)) refl c.args.shelf.now c.read_searched.new.shelf c.args.source.now c.placed_network.new.source given known
    c.in_ok-net.net c.in_ok-net.ensures.source
