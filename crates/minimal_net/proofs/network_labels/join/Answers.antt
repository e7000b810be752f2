use Rattle.std.proofs.Common.{◌/◌, ◌<◌, [], ◌∷◌, length, ap, sym, subst, ◌∙◌, arith}
use Rattle.std.proofs.lemmas.List.{length-append}
use Rattle.minimal_net.specs.Searching.{AreLabelsAt}
use Rattle.minimal_net.proofs.Counting.{labels_at-any}
use Rattle.minimal_net.proofs.Shares.{AreFirst, first-more, share-edge}
use Rattle.minimal_net.proofs.network_labels.join.Goals as goal

pub index-requires : goal.index-requires
index-requires c =
    let t = c.requires.shares.0 in
    let e = c.loop-edge.edge in
    let some : 0 < length c.args.shares.now = c.requires.some (omega (arith, c.loop-edge-test.true)) in
    let at = share-edge t c.args.shares.now e _ c.in-Ok.share some (subst (λ k. e < k) c.requires.shares.1 c.loop-edge-test.true)
    c.requires.shares.2 (sym c.index-shares-edge.is ∙ c.in-Ok.is) in
    omega (arith, at.0, c.in-Ok.share.ok.0)

pub loop-edge-preserved : goal.loop-edge-preserved
loop-edge-preserved c =
    let e = c.loop-edge.edge in
    let shares = c.args.shares.now in
    let labels = c.loop-edge.labels.items in
    let l = c.index.result.now in
    let some : 0 < length shares = c.requires.some (omega (arith, c.loop-edge-test.true)) in
    record {
      long = omega (arith, ap length c.in-Ok-push.ensures.items, length-append labels (l ∷ []), c.loop-edge.invariant.long);
      first = λ t edges are.
          let at = share-edge t shares e _ c.in-Ok.share some (subst (λ k. e < k) edges c.loop-edge-test.true) are
          (sym c.index-shares-edge.is ∙ c.in-Ok.is) in
          subst (AreFirst (AreLabelsAt t)) (sym c.in-Ok-push.ensures.items)
          (first-more (AreLabelsAt t) labels l (c.loop-edge.invariant.first t edges are)
          (subst (λ k. AreLabelsAt t k l) (sym c.loop-edge.invariant.long) (subst (AreLabelsAt t e)
          (sym (c.index.ensures ∙ labels_at-any c.in-Ok.share.items (e / length shares) l at.0)) at.1)));
    }
