use Rattle.std.proofs.Common.{◌≢◌, take, arith}
use Rattle.std.proofs.lemmas.List.{take_more}
use Rattle.network_words.specs.Edge.{IsProperPair}
use Rattle.session_versions.proofs.Proper.{AreProper-push}
use Rattle.tests_of_versions.proofs.versions.are_proper.Goals as goal

pub loop-held-preserved : goal.loop-held-preserved
loop-held-preserved c =
    let helds = c.args.helds.now in
    let at = c.loop-held.held-index in
    let held = c.held-item.result in
    let differ : c.held.inside.fact.i ≢ c.held.inside.fact.j = c.if-i-j.false in
    let pair : IsProperPair 2 c.held.inside.fact.i c.held.inside.fact.j = record { first_below = omega (arith, c.if-i-gt1.false); second_below = omega (arith, c.if-j-gt1.false); differ = differ } in
    let set = rw c.full-full.ensures at (c.within.ensures.0 (rw c.if-not-within.false search)) in
    rw (take_more helds at held c.loop-held-test.true, ← c.held-item.is, ← c.held.view_is)
    (AreProper-push c.args.c.now.algebra 2 (take at helds) _ c.loop-held.invariant pair set)
