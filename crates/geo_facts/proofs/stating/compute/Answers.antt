use Rattle.std.proofs.Common.{◌≡◌, ◌≤◌, ◌*◌, length, sym, subst, arith}
use Rattle.std.specs.List.{AllZip}
use Rattle.std.proofs.lemmas.List.{take_all}
use Rattle.geo_facts.specs.Pieces.{IsPairFact}
use Rattle.geo_facts.proofs.PolygonFacts.{pieces-joined}
use Rattle.geo_facts.proofs.stating.compute.Goals as goal

pub returns-in-Ok : goal.returns-in-Ok
returns-in-Ok g c = λ facts joined.
    let pairs = c.args.pairs.now in
    let pieces = c.in-Ok.pieces.items in
    let size = c.piece_size-size.result in
    let count : length pieces ≡ c.piece_count-count.result = omega (arith, c.in-Ok.ensures.len, c.in-Ok.pieces.ok.0) in
    let all : length pairs ≤ length pieces * size = subst (λ k. length pairs ≤ k * size) (sym count) c.piece_count-count.ensures.all in
    subst (λ ps. AllZip IsPairFact ps facts) (take_all (length pieces * size) pairs all)
    (pieces-joined size pairs pieces facts (λ i d less. (c.in-Ok.ensures.each i d (omega (arith, less, count))).1.met) joined)
