use Rattle.std.proofs.Common.{◌≡◌, ◌<◌, sym, ap, subst, ◌∙◌, replicate, arith}
use Rattle.std.specs.Prelude.{slice_set, bit_and}
use Rattle.calculus_table.specs.Composition.{full_of}
use Rattle.network_words.specs.Edge.{edge_count}
use Rattle.network_words.specs.Network.{Network, IsNetwork}
use Rattle.split_search.proofs.Hints.{full-network, met-network}
use Rattle.split_search.proofs.ahead.net_of.Goals as goal

pub loop-other-init : goal.loop-other-init
loop-other-init g c =
    let m = g.C.Compose.algebra c.args.c.now in
    let n = c.args.nodes in
    let e = c.in-Ok.ensures.ok in
    record {
      network = subst (λ ws. IsNetwork m n ws) (sym (ap (λ (x : Network). x.words) e
          ∙ ap (λ f. replicate (edge_count n) f) c.full.ensures)) (full-network m n);
      nodes = ap (λ (x : Network). x.nodes) e;
    }

pub loop-other-preserved : goal.loop-other-preserved
loop-other-preserved g c =
    let m = g.C.Compose.algebra c.args.c.now in
    let n = c.args.nodes in
    let net = c.loop-other.net in
    let e = c.loop-other.other in
    let a = c.if-other-edge.set in
    let rel : c.meet.result ≡ bit_and a (full_of m) = c.meet.ensures
    ∙ ap (λ f. bit_and a f) c.full-in-loop-other.ensures in
    let first : edge_count c.in-Ok.net.nodes ≡ edge_count n =
    ap (λ (x : Network). edge_count x.nodes) c.in-Ok.ensures.ok in
    let below : e < edge_count n = (let t = c.loop-other-test.true in
    omega (arith, t, c.edges-other-end.ensures, first)) in
    record {
      network = subst (λ (x : Network). IsNetwork m n x.words) (sym c.set.ensures)
          (subst (λ r. IsNetwork m n (slice_set net.words e r)) (sym rel)
          (met-network m n net.words e a below c.loop-other.invariant.network));
      nodes = ap (λ (x : Network). x.nodes) c.set.ensures ∙ c.loop-other.invariant.nodes;
    }
