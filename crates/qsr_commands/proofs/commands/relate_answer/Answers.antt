use Rattle.std.proofs.Common.{◌≡◌, map, refl, ap, subst, ◌∙◌, rules}
use Rattle.std.specs.String.{string_bytes}
use Rattle.std.proofs.lemmas.Result.{err_from_is_err_and}
use Rattle.geo_facts.specs.PolygonFile.{named_ring}
use Rattle.geo_facts.specs.Facts.{ring_pairs}
use Rattle.qsr_words.specs.Asked.{relate}
use Rattle.qsr_words.specs.Requests.{relate_of}
use Rattle.qsr_inputs.specs.declared.statuses.Status.TheVariants.{Done}
use Rattle.qsr_answers.specs.Relations.{IsTextOfPairs}
use Rattle.qsr_commands.proofs.CommandAnswers.{alone_stopped, alone_answered, alone_memory}
use Rattle.qsr_commands.proofs.commands.relate_answer.Goals as goal

pub returns-in_err-related : goal.returns-in_err-related
returns-in_err-related g c =
    let p = err_from_is_err_and c.from_residual.result c.from_residual.ensures.1 in
    rw (p.1, p.2) (alone_stopped g.F.Source.documents g.F.Source.faults g.F.Source.given g.F.Source.absent_openings
    (relate (relate_of c.args.request.now)) c.args.shelf.now c.read_related.new.shelf (λ none. absurd cc)
    c.in_err-related.field-0.0 c.in_err-related.ensures)

pub returns-in-Ok : goal.returns-in-Ok
returns-in-Ok g c =
    let related = c.in_ok-related.related in
    let text = string_bytes c.in-Ok.text in
    let polygons : map named_ring c.deref.result.now ≡ related.polygons = search rules in
    let pattern = ap (λ r. r.pattern) c.related-inside.view_is ∙ ap (λ r. r.pattern) c.related.view_is in
    let all = subst (λ p. IsTextOfPairs p (ring_pairs (map named_ring c.deref.result.now)) text) pattern c.in-Ok.ensures in
    let lines = subst (λ ps. IsTextOfPairs related.pattern (ring_pairs ps) text) polygons all in
    alone_answered g.F.Source.documents g.F.Source.faults g.F.Source.given g.F.Source.absent_openings
    (relate (relate_of c.args.request.now)) c.args.shelf.now c.read_related.new.shelf related c.in_ok-related.ensures
    tt refl refl (record { text = c.in-Ok.text; status = Done }) (lines, refl)

pub returns : goal.returns
returns g c =
    alone_memory g.F.Source.documents g.F.Source.faults g.F.Source.given g.F.Source.absent_openings
    (relate (relate_of c.args.request.now)) c.args.shelf.now c.read_related.new.shelf c.in_ok-related.related
    c.in_ok-related.ensures
