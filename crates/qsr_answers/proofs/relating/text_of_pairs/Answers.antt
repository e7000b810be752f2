use Rattle.std.proofs.Common.{◌-◌, length, map, take, drop}
use Rattle.std.specs.String.{string_bytes}
use Rattle.geo_facts.specs.PolygonFile.{named_ring}
use Rattle.geo_facts.specs.Facts.{ring_pairs}
use Rattle.qsr_answers.proofs.PairTexts.{next_polygon, no_polygon, first_and_later}
use Rattle.qsr_answers.proofs.relating.text_of_pairs.Goals as goal

pub loop-rest-preserved : goal.loop-rest-preserved
loop-rest-preserved c =
    let rest = c.loop-rest.rest.now in
    next_polygon c.args.pattern.now (ring_pairs (map named_ring c.args.polygons.now)) rest (take (length rest - 1) (drop 1 rest)) c.first-item.result
    (string_bytes c.loop-rest.text) (string_bytes c.push_pairs.new.text) (first_and_later rest c.first-item.result c.in-len1-up.len_at_least c.first-item.is)
    c.loop-rest.invariant c.in_ok-push_pairs.ensures

pub returns : goal.returns
returns c =
    no_polygon c.args.pattern.now (ring_pairs (map named_ring c.args.polygons.now)) c.loop-rest.rest.now (string_bytes c.loop-rest.text) c.in_default.len_below c.loop-rest.invariant
