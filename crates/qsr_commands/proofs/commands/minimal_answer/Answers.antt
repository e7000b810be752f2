use Rattle.std.proofs.Common.{refl}
use Rattle.std.proofs.lemmas.Result.{err_from_is_err_and}
use Rattle.qsr_words.specs.Asked.{minimal}
use Rattle.qsr_words.specs.Requests.{minimal_of}
use Rattle.qsr_inputs.specs.Inputs.{Guided}
use Rattle.qsr_commands.proofs.CommandAnswers.{given_stopped, read_stopped, read_answered, read_memory}
use Rattle.qsr_commands.proofs.commands.minimal_answer.Goals as goal

pub returns-in_err-guided : goal.returns-in_err-guided
returns-in_err-guided g c =
    let p = err_from_is_err_and c.from_residual.result c.from_residual.ensures.1 in
    rw (p.1, p.2) (given_stopped g.F.Source.documents g.F.Source.faults g.F.Source.given g.F.Source.absent_openings
    g.S.Source.left g.S.Source.faults g.S.Source.given
    (minimal (minimal_of c.args.request.now)) refl c.args.shelf.now c.calculus_and_class.new.shelf c.args.source.now
    c.in_err-guided.field-0.0
    (rw (c.as_str-calculus.ensures.value, c.as_str.ensures.value) at c.in_err-guided.ensures.guided))

pub returns-in_err-net : goal.returns-in_err-net
returns-in_err-net g c =
    let p = err_from_is_err_and c.from_residual-in_err-net.result c.from_residual-in_err-net.ensures.1 in
    let given : Guided = record { calculus = c.guided.inside.calculus; class = c.guided.inside.class } in
    let known = rw (c.as_str-calculus.ensures.value, c.as_str.ensures.value) at
    (rw (← c.guided.view_is) at c.in_ok-guided.ensures.guided) in
    rw (p.1, p.2) (read_stopped g.F.Source.documents g.F.Source.faults g.F.Source.given g.F.Source.absent_openings
    g.S.Source.left g.S.Source.faults g.S.Source.given
    (minimal (minimal_of c.args.request.now)) refl c.args.shelf.now c.calculus_and_class.new.shelf c.args.source.now
    c.network.new.source given known c.in_err-net.field-0.0 c.in_err-net.ensures.source)

pub returns-in-Ok : goal.returns-in-Ok
returns-in-Ok g c =
    let given : Guided = record { calculus = c.guided.inside.calculus; class = c.guided.inside.class } in
    let known = rw (c.as_str-calculus.ensures.value, c.as_str.ensures.value) at
    (rw (← c.guided.view_is) at c.in_ok-guided.ensures.guided) in
    read_answered g.F.Source.documents g.F.Source.faults g.F.Source.given g.F.Source.absent_openings
    g.S.Source.left g.S.Source.faults g.S.Source.given
    (minimal (minimal_of c.args.request.now)) refl c.args.shelf.now c.calculus_and_class.new.shelf c.args.source.now
    c.network.new.source given known c.in_ok-net.net c.in_ok-net.ensures.source refl c.in-Ok.answer
    (rw (← c.guided.view_is) at c.in-Ok.ensures)

pub returns : goal.returns
returns g c =
    let given : Guided = record { calculus = c.guided.inside.calculus; class = c.guided.inside.class } in
    let known = rw (c.as_str-calculus.ensures.value, c.as_str.ensures.value) at
    (rw (← c.guided.view_is) at c.in_ok-guided.ensures.guided) in
    read_memory g.F.Source.documents g.F.Source.faults g.F.Source.given g.F.Source.absent_openings
    g.S.Source.left g.S.Source.faults g.S.Source.given
    (minimal (minimal_of c.args.request.now)) refl c.args.shelf.now c.calculus_and_class.new.shelf c.args.source.now
    c.network.new.source given known c.in_ok-net.net c.in_ok-net.ensures.source
