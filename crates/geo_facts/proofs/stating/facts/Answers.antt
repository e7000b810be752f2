use Rattle.std.proofs.Common.{◌≡◌, ◌<◌, ◌≤◌, ◌^◌, List, Result, Vec, Global, length, sym, ap, subst, ◌∙◌, arith}
use Rattle.std.specs.List.{AllZip}
use Rattle.std.proofs.lemmas.List.{take_all}
use Rattle.std.proofs.lemmas.Slice.Zip.{AllZip-long}
use Rattle.geo_facts.specs.Pieces.{IsPlaced, IsPairFact, pairs_of, AreJoined}
use Rattle.calculus_table.specs.declared.Memory.{Memory}
use Rattle.network_words.specs.declared.fact.Fact.{Fact}
use Rattle.geo_facts.specs.declared.stating.Placed.{Placed}
use Rattle.geo_facts.specs.declared.stating.Pair.{Pair}
use Rattle.geo_facts.proofs.PolygonFacts.{pairs_of-few, placed-nodes, facts-stated, facts-few, facts-within, facts-proper}
use Rattle.geo_facts.proofs.stating.facts.Goals as goal

pub compute-requires-after_bounds : goal.compute-requires-after_bounds
compute-requires-after_bounds g c = λ κs bound.
    let net = c.args.net.now in
    let placed = c.in_ok-placed.placed.items in
    let few : length placed ≤ 128 = omega (arith, AllZip-long (IsPlaced net.nodes net.names) c.args.polygons.now placed c.in_ok-placed.ensures.placed, c.requires.few) in
    omega (arith, pairs_of-few placed few, ap length (c.in-Ok.ensures ∙ ap pairs_of c.deref.ensures.value), ap length c.deref-2.ensures.value)

-- the facts of the pairs
stated : (placed : List Placed) (pairs : List Pair) (pieces : List (Result (Vec Fact Global) Memory)) (read : List Pair) (taken : List (Result (Vec Fact Global) Memory)) (facts : List Fact) →
    read ≡ pairs → taken ≡ pieces → ((fs : List Fact) → AreJoined pieces fs → AllZip IsPairFact read fs) → AreJoined taken facts → AllZip IsPairFact pairs facts
stated placed pairs pieces read taken facts e f h k = subst (λ ps. AllZip IsPairFact ps facts) e (h facts (subst (λ ps. AreJoined ps facts) f k))

pub returns-in-Ok-join-clause-facts : goal.returns-in-Ok-join-clause-facts
returns-in-Ok-join-clause-facts g c =
    let net = c.args.net.now in
    let placed = c.in_ok-placed.placed.items in
    let pairs = c.in-Ok.pairs.items in
    let facts = c.in-Ok-join.facts.items in
    facts-stated net.nodes net.names c.args.polygons.now placed pairs facts c.in_ok-placed.ensures.placed (c.in-Ok.ensures ∙ ap pairs_of c.deref.ensures.value)
    (stated placed pairs c.in-Ok-compute.pieces.items c.deref-2.result.now c.deref-3.result.now facts c.deref-2.ensures.value c.deref-3.ensures.value c.in-Ok-compute.ensures c.in-Ok-join.ensures)

pub returns-in-Ok-join-clause-few : goal.returns-in-Ok-join-clause-few
returns-in-Ok-join-clause-few g c =
    let net = c.args.net.now in
    let placed = c.in_ok-placed.placed.items in
    let pairs = c.in-Ok.pairs.items in
    let facts = c.in-Ok-join.facts.items in
    let few : length placed ≤ 128 = omega (arith, AllZip-long (IsPlaced net.nodes net.names) c.args.polygons.now placed c.in_ok-placed.ensures.placed, c.requires.few) in
    let short : length pairs < 2 ^ 32 = omega (arith, pairs_of-few placed few, ap length (c.in-Ok.ensures ∙ ap pairs_of c.deref.ensures.value)) in
    facts-few pairs facts short
    (stated placed pairs c.in-Ok-compute.pieces.items c.deref-2.result.now c.deref-3.result.now facts c.deref-2.ensures.value c.deref-3.ensures.value c.in-Ok-compute.ensures c.in-Ok-join.ensures)

pub returns-in-Ok-join-clause-within : goal.returns-in-Ok-join-clause-within
returns-in-Ok-join-clause-within g c =
    let placed = c.in_ok-placed.placed.items in
    let pairs = c.in-Ok.pairs.items in
    let facts = c.in-Ok-join.facts.items in
    facts-within pairs facts
    (stated placed pairs c.in-Ok-compute.pieces.items c.deref-2.result.now c.deref-3.result.now facts c.deref-2.ensures.value c.deref-3.ensures.value c.in-Ok-compute.ensures c.in-Ok-join.ensures)

pub returns-in-Ok-join-clause-proper : goal.returns-in-Ok-join-clause-proper
returns-in-Ok-join-clause-proper g c =
    let net = c.args.net.now in
    let placed = c.in_ok-placed.placed.items in
    let pairs = c.in-Ok.pairs.items in
    let facts = c.in-Ok-join.facts.items in
    facts-proper net.nodes net.names c.args.polygons.now placed pairs facts c.requires.distinct c.in_ok-placed.ensures.placed (c.in-Ok.ensures ∙ ap pairs_of c.deref.ensures.value)
    (stated placed pairs c.in-Ok-compute.pieces.items c.deref-2.result.now c.deref-3.result.now facts c.deref-2.ensures.value c.deref-3.ensures.value c.in-Ok-compute.ensures c.in-Ok-join.ensures)

pub returns-in-Ok-join-clause-nodes : goal.returns-in-Ok-join-clause-nodes
returns-in-Ok-join-clause-nodes g c =
    let net = c.args.net.now in
    let polygons = c.args.polygons.now in
    let placed = c.in_ok-placed.placed.items in
    placed-nodes net.nodes net.names polygons placed (length polygons) (subst (λ ps. AllZip (IsPlaced net.nodes net.names) ps placed) (sym (take_all (length polygons) polygons (omega arith))) c.in_ok-placed.ensures.placed)
