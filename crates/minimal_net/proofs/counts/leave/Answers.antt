use Rattle.std.proofs.Common.{◌≡◌, ◌<◌, ap, ◌∙◌, sym, subst, length, arith}
use Rattle.minimal_net.specs.NetworkLabels.{left_in}
use Rattle.minimal_net.proofs.Counting.{labels_at-any}
use Rattle.minimal_net.proofs.Leaving.{IsLeftTo, left-more, left-whole}
use Rattle.minimal_net.proofs.counts.leave.Goals as goal

pub loop-edge-preserved : goal.loop-edge-preserved
loop-edge-preserved c =
    let labels = c.args.labels.now in
    let e = c.loop-edge.edge in
    let l = c.index-labels-edge.result in
    let below : e < length labels = omega (arith, c.loop-edge-test.true, c.edges-edge-end.ensures, c.requires) in
    let there : e < length c.args.net.now.words =
    omega (arith, c.loop-edge-test.true, c.edges-edge-end.ensures, c.words-words.ensures.length_is) in
    left-more labels e c.left.result c.args.net.now c.loop-edge.net c.set.new.self c.loop-edge.invariant there
    (c.left.ensures ∙ ap left_in (c.index-labels-edge.is ∙ labels_at-any labels e l below)) c.set.ensures

pub returns : goal.returns
returns c =
    let labels = c.args.labels.now in
    let whole : c.loop-edge.edge ≡ length labels =
    omega (arith, c.loop-edge-test.false, c.loop-edge.auto.edge-end, c.edges-edge-end.ensures, c.requires) in
    left-whole labels c.args.net.now c.loop-edge.net
    (subst (λ k. IsLeftTo labels k c.args.net.now c.loop-edge.net) whole c.loop-edge.invariant)
    (c.words-words.ensures.length_is ∙ sym c.requires)
