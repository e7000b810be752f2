use Rattle.std.proofs.Common.{sym, ◌∙◌}
use Rattle.std.specs.String.{string_bytes}
use Rattle.std.proofs.lemmas.Bool.{false≢true}
use Rattle.geo_facts.specs.PolygonFile.{named_ring}
use Rattle.geo_facts.specs.Facts.{ring_pair}
use Rattle.qsr_answers.proofs.PairTexts.{line_grown, nothing_grown}
use Rattle.qsr_answers.proofs.relating.push_pair.Goals as goal

pub returns-in_ok-push_line : goal.returns-in_ok-push_line
returns-in_ok-push_line c =
    line_grown c.args.pattern.now (ring_pair (named_ring c.args.first.now) (named_ring c.args.second.now)) c.in-Ok.matrix c.in-Ok.ensures
    (string_bytes c.args.text.now) (string_bytes c.push_line.new.text) (c.is_asked_for.ensures.0 c.if-is_asked_for.true) c.in_ok-push_line.ensures

pub returns-else-is_asked_for : goal.returns-else-is_asked_for
returns-else-is_asked_for c =
    nothing_grown c.args.pattern.now (ring_pair (named_ring c.args.first.now) (named_ring c.args.second.now)) c.in-Ok.matrix c.in-Ok.ensures
    (string_bytes c.args.text.now) (λ asked. false≢true (sym c.if-is_asked_for.false ∙ c.is_asked_for.ensures.1 asked))
