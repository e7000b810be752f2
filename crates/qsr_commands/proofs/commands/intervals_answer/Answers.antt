use Rattle.std.proofs.Common.{refl}
use Rattle.std.proofs.lemmas.Result.{err_from_is_err_and}
use Rattle.qsr_words.specs.Asked.{intervals}
use Rattle.qsr_words.specs.Requests.{intervals_of}
use Rattle.qsr_commands.proofs.CommandAnswers.{given_stopped, read_stopped, read_answered, read_memory}
use Rattle.qsr_commands.proofs.commands.intervals_answer.Goals as goal

pub returns-in_err-class : goal.returns-in_err-class
returns-in_err-class g c =
    let p = err_from_is_err_and c.from_residual.result c.from_residual.ensures.1 in
    rw (p.1, p.2) (given_stopped g.F.Source.documents g.F.Source.faults g.F.Source.given g.F.Source.absent_openings
    g.S.Source.left g.S.Source.faults g.S.Source.given
    (intervals (intervals_of c.args.request.now)) refl c.args.shelf.now c.class.new.shelf c.args.source.now
    c.in_err-class.field-0.0 (rw (c.as_str.ensures.value, c.in-Ok.ensures.value) at c.in_err-class.ensures.class))

pub returns-in_err-net : goal.returns-in_err-net
returns-in_err-net g c =
    let p = err_from_is_err_and c.from_residual-in_err-net.result c.from_residual-in_err-net.ensures.1 in
    let known = rw (c.as_str.ensures.value, c.in-Ok.ensures.value) at c.in_ok-class.ensures.class in
    rw (p.1, p.2) (read_stopped g.F.Source.documents g.F.Source.faults g.F.Source.given g.F.Source.absent_openings
    g.S.Source.left g.S.Source.faults g.S.Source.given
    (intervals (intervals_of c.args.request.now)) refl c.args.shelf.now c.class.new.shelf c.args.source.now
    c.network.new.source c.in_ok-class.class known c.in_err-net.field-0.0
    (rw c.in-Ok.ensures.value at c.in_err-net.ensures.source))

pub returns-in-Ok-realised_answer : goal.returns-in-Ok-realised_answer
returns-in-Ok-realised_answer g c =
    let known = rw (c.as_str.ensures.value, c.in-Ok.ensures.value) at c.in_ok-class.ensures.class in
    read_answered g.F.Source.documents g.F.Source.faults g.F.Source.given g.F.Source.absent_openings
    g.S.Source.left g.S.Source.faults g.S.Source.given
    (intervals (intervals_of c.args.request.now)) refl c.args.shelf.now c.class.new.shelf c.args.source.now
    c.network.new.source c.in_ok-class.class known c.in_ok-net.net
    (rw c.in-Ok.ensures.value at c.in_ok-net.ensures.source) refl c.in-Ok-realised_answer.answer
    c.in-Ok-realised_answer.ensures

pub returns : goal.returns
returns g c =
    let known = rw (c.as_str.ensures.value, c.in-Ok.ensures.value) at c.in_ok-class.ensures.class in
    read_memory g.F.Source.documents g.F.Source.faults g.F.Source.given g.F.Source.absent_openings
    g.S.Source.left g.S.Source.faults g.S.Source.given
    (intervals (intervals_of c.args.request.now)) refl c.args.shelf.now c.class.new.shelf c.args.source.now
    c.network.new.source c.in_ok-class.class known c.in_ok-net.net
    (rw c.in-Ok.ensures.value at c.in_ok-net.ensures.source)
