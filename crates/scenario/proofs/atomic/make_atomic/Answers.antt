use Rattle.std.proofs.Common.{◌≡◌, ℕ, ◌^◌, ◌<◌, ◌≤◌, List, length, slice_index, slice_set, ap, ◌∙◌, arith}
use Rattle.std.proofs.lemmas.List.{length-set}
use Rattle.network_words.specs.Network.{Network}
use Rattle.scenario.proofs.SingleWords.{one_more, all_edges, value_at}
use Rattle.scenario.proofs.atomic.make_atomic.Goals as goal

pub loop-edge-preserved : goal.loop-edge-preserved
loop-edge-preserved c =
    let edge = c.loop-edge.edge in
    let words : List ℕ = c.loop-edge.net.words in
    let bases : List ℕ = c.args.scenario.now in
    let kept = c.loop-edge.invariant in
    let with_words : Network → Network = λ n. record n { words = slice_set words edge c.single.result } in
    let here : edge < length bases =
    omega (arith, c.loop-edge-test.true, c.edges-edge-end.ensures, c.requires.each) in
    let below : edge < length words =
    omega (arith, here, kept.length_is, c.requires.length_is, c.requires.each) in
    let base = value_at c.scenario.inside.bases.items bases edge c.index-base.result.now
    c.scenario.view_is here c.index-base.ensures in
    let is : c.single.result ≡ 2 ^ slice_index bases edge =
    c.single.ensures ∙ ap (λ r. 2 ^ r) (c.from.ensures ∙ base) in
    rw c.set.ensures (record {
      rest = ap with_words kept.rest;
      length_is = length-set words edge c.single.result ∙ kept.length_is;
      atomic = one_more bases words edge c.single.result below is kept.atomic;
    })

pub returns : goal.returns
returns c =
    let words : List ℕ = c.loop-edge.net.words in
    let bases : List ℕ = c.args.scenario.now in
    let kept = c.loop-edge.invariant in
    let same : length words ≡ length bases =
    omega (arith, kept.length_is, c.requires.length_is, c.requires.each) in
    let whole : length bases ≤ c.loop-edge.edge =
    omega (arith, c.loop-edge-test.false, c.edges-edge-end.ensures, c.requires.each) in
    let with_words : List ℕ → Network = λ w. record c.args.net.now { words = w } in
    kept.rest ∙ ap with_words (all_edges bases words c.loop-edge.edge same whole kept.atomic)
