use Rattle.std.proofs.Common.{◌≡◌, ◌∷◌, ◌++◌, [], rules}
use Rattle.geo_facts.specs.Pieces.{IsPairFact}
use Rattle.geo_facts.proofs.PolygonFacts.{AllZip-next}
use Rattle.geo_facts.proofs.stating.facts_of.Goals as goal

pub loop-pair-preserved : goal.loop-pair-preserved
loop-pair-preserved c =
    let fact = c.in_ok-fact.fact in
    let kept : c.push.new.self.items ≡ c.loop-pair.facts.items ++ fact ∷ [] = search rules in
    AllZip-next IsPairFact c.args.pairs.now c.loop-pair.facts.items c.push.new.self.items c.loop-pair.pair-index c.pair-item.result fact c.loop-pair-test.true c.pair-item.is kept c.loop-pair.invariant c.in_ok-fact.ensures
