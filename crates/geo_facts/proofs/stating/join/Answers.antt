use Rattle.std.proofs.Common.{[], subst}
use Rattle.std.proofs.lemmas.List.{append-nil}
use Rattle.geo_facts.specs.Pieces.{AreJoined}
use Rattle.geo_facts.proofs.PolygonFacts.{empty-joined}
use Rattle.geo_facts.proofs.stating.join.Goals as goal

pub returns : goal.returns
returns c =
    let facts = c.loop-rest.facts.items in
    subst (AreJoined c.args.pieces.now) (append-nil facts) (c.loop-rest.invariant [] (empty-joined c.loop-rest.rest.now c.in_default.len_below))
