use Rattle.std.proofs.Common.{refl}
use Rattle.std.proofs.lemmas.Result.{err_from_is_err_and}
use Rattle.qsr_words.specs.Asked.{check}
use Rattle.qsr_words.specs.Requests.{check_of}
use Rattle.qsr_inputs.specs.contracts.claims.Claimed.{the_view}
use Rattle.qsr_answers.proofs.RuledOut.{checks_network}
use Rattle.qsr_commands.proofs.CommandAnswers.{given_stopped, read_stopped, read_answered, read_memory}
use Rattle.qsr_commands.proofs.commands.check_answer.Goals as goal

pub returns-in_err-claimed : goal.returns-in_err-claimed
returns-in_err-claimed g c =
    let p = err_from_is_err_and c.from_residual.result c.from_residual.ensures.1 in
    rw (p.1, p.2) (given_stopped g.F.Source.documents g.F.Source.faults g.F.Source.given g.F.Source.absent_openings g.S.Source.left g.S.Source.faults g.S.Source.given
    (check (check_of c.args.request.now)) refl c.args.shelf.now c.read_claimed.new.shelf c.args.source.now c.in_err-claimed.field-0.0
    c.in_err-claimed.ensures.given)

pub returns-in_err-net : goal.returns-in_err-net
returns-in_err-net g c =
    let p = err_from_is_err_and c.from_residual-in_err-net.result c.from_residual-in_err-net.ensures.1 in
    rw (p.1, p.2) (read_stopped g.F.Source.documents g.F.Source.faults g.F.Source.given g.F.Source.absent_openings g.S.Source.left g.S.Source.faults g.S.Source.given
    (check (check_of c.args.request.now)) refl c.args.shelf.now c.read_claimed.new.shelf c.args.source.now c.placed_network.new.source (the_view c.claimed.inside)
    (rw (← c.claimed.view_is) at c.in_ok-claimed.ensures.given) c.in_err-net.field-0.0 c.in_err-net.ensures.source)

pub returns-in-Ok : goal.returns-in-Ok
returns-in-Ok g c =
    read_answered g.F.Source.documents g.F.Source.faults g.F.Source.given g.F.Source.absent_openings g.S.Source.left g.S.Source.faults g.S.Source.given
    (check (check_of c.args.request.now)) refl c.args.shelf.now c.read_claimed.new.shelf c.args.source.now c.placed_network.new.source (the_view c.claimed.inside)
    (rw (← c.claimed.view_is) at c.in_ok-claimed.ensures.given) c.in_ok-net.net c.in_ok-net.ensures.source refl c.in-Ok.answer
    (checks_network (the_view c.claimed.inside).calculus c.in_ok-net.net (the_view c.claimed.inside).certificate c.lawful.ensures c.in_ok-net.ensures.network _ c.in-Ok.answer.status
    (rw (← c.claimed.view_is) at c.in-Ok.ensures))

pub returns : goal.returns
returns g c =
    read_memory g.F.Source.documents g.F.Source.faults g.F.Source.given g.F.Source.absent_openings g.S.Source.left g.S.Source.faults g.S.Source.given
    (check (check_of c.args.request.now)) refl c.args.shelf.now c.read_claimed.new.shelf c.args.source.now c.placed_network.new.source (the_view c.claimed.inside)
    (rw (← c.claimed.view_is) at c.in_ok-claimed.ensures.given) c.in_ok-net.net c.in_ok-net.ensures.source
