use Rattle.std.proofs.Common.{◌≡◌, map, refl, subst, rules}
use Rattle.std.specs.String.{string_bytes}
use Rattle.std.proofs.lemmas.Result.{err_from_is_err_and}
use Rattle.geo_facts.specs.PolygonFile.{named_ring}
use Rattle.qsr_words.specs.Asked.{scene}
use Rattle.qsr_words.specs.Requests.{scene_of}
use Rattle.qsr_inputs.specs.declared.statuses.Status.TheVariants.{Done}
use Rattle.qsr_answers.specs.Scenes.{IsSceneText}
use Rattle.qsr_commands.proofs.CommandAnswers.{alone_stopped, alone_answered, alone_memory}
use Rattle.qsr_commands.proofs.commands.scene_answer.Goals as goal

pub returns-in_err-polygons : goal.returns-in_err-polygons
returns-in_err-polygons g c =
    let p = err_from_is_err_and c.from_residual.result c.from_residual.ensures.1 in
    rw (p.1, p.2) (alone_stopped g.F.Source.documents g.F.Source.faults g.F.Source.given g.F.Source.absent_openings
    (scene (scene_of c.args.request.now)) c.args.shelf.now c.read_drawn.new.shelf (λ none. absurd cc)
    c.in_err-polygons.field-0.0 c.in_err-polygons.ensures.fetches)

pub returns-in-Ok : goal.returns-in-Ok
returns-in-Ok g c =
    let polygons = c.in_ok-polygons.polygons in
    let text = string_bytes c.in-Ok.text in
    let same : map named_ring c.deref.result.now ≡ polygons = search rules in
    let drawn = subst (λ ps. IsSceneText ps text) same c.in-Ok.ensures in
    alone_answered g.F.Source.documents g.F.Source.faults g.F.Source.given g.F.Source.absent_openings
    (scene (scene_of c.args.request.now)) c.args.shelf.now c.read_drawn.new.shelf polygons
    c.in_ok-polygons.ensures.fetches tt refl refl (record { text = c.in-Ok.text; status = Done }) (drawn, refl)

pub returns : goal.returns
returns g c =
    alone_memory g.F.Source.documents g.F.Source.faults g.F.Source.given g.F.Source.absent_openings
    (scene (scene_of c.args.request.now)) c.args.shelf.now c.read_drawn.new.shelf c.in_ok-polygons.polygons
    c.in_ok-polygons.ensures.fetches
