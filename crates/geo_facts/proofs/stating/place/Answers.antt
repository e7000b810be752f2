use Rattle.std.proofs.Common.{◌≡◌, ◌∷◌, ◌++◌, [], rules}
use Rattle.std.specs.String.{string_bytes}
use Rattle.geo_facts.specs.Facts.{IsNoNode}
use Rattle.geo_facts.specs.Pieces.{IsPlaced}
use Rattle.geo_facts.proofs.PolygonFacts.{AllZip-next, placed-nodes, name-read}
use Rattle.geo_facts.proofs.stating.place.Goals as goal

pub loop-at-preserved : goal.loop-at-preserved
loop-at-preserved c =
    let net = c.args.net.now in
    let found = c.in-Some.found in
    let kept : c.push.new.self.items ≡ c.loop-at.placed.items ++ found ∷ [] = search rules in
    AllZip-next (IsPlaced net.nodes net.names) c.args.polygons.now c.loop-at.placed.items c.push.new.self.items c.loop-at.at c.index-polygons-at.result found c.loop-at-test.true c.index-polygons-at.is kept c.loop-at.invariant c.in-Some.ensures

pub returns-in_default-clause-fault : goal.returns-in_default-clause-fault
returns-in_default-clause-fault c =
    let names = c.args.net.now.names in
    let polygon = c.index-polygons-at.result in
    let none : IsNoNode names (string_bytes polygon.name) = c.in_default.ensures in
    record {
      name = string_bytes polygon.name;
      there = name-read c.args.polygons.now c.loop-at.at polygon c.loop-at-test.true c.index-polygons-at.is;
      stranger = none;
      before = placed-nodes c.args.net.now.nodes names c.args.polygons.now c.loop-at.placed.items c.loop-at.at c.loop-at.invariant;
    }
