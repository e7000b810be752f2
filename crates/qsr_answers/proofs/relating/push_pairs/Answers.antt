use Rattle.std.specs.String.{string_bytes}
use Rattle.geo_facts.specs.PolygonFile.{named_ring}
use Rattle.qsr_answers.proofs.PairTexts.{next_pair}
use Rattle.qsr_answers.proofs.relating.push_pairs.Goals as goal

pub loop-second-preserved : goal.loop-second-preserved
loop-second-preserved c =
    next_pair c.args.pattern.now (named_ring c.args.first.now) c.args.later.now c.loop-second.second-index c.second-item.result
    (string_bytes c.args.text.now) (string_bytes c.loop-second.text) (string_bytes c.push_pair.new.text)
    c.loop-second-test.true c.second-item.is c.loop-second.invariant c.in_ok-push_pair.ensures
