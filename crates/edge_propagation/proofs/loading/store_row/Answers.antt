use Rattle.std.proofs.Common.{◌≡◌, ◌<◌, ◌≤◌, ◌∙◌, ap, arith, length}
use Rattle.std.proofs.lemmas.List.{length-set}
use Rattle.network_words.specs.Edge.{edge_at, edge_between}
use Rattle.network_words.specs.Network.{Network}
use Rattle.network_words.proofs.Edges.{edge_between-forward}
use Rattle.edge_propagation.proofs.Loads.{rest-words, IsRowStored-edge, IsStored-row}
use Rattle.edge_propagation.proofs.loading.store_row.Goals as goal

pub loop-j-preserved : goal.loop-j-preserved
loop-j-preserved c =
    let p = c.loop-j.invariant in
    let n = c.args.net.now.nodes in
    let words = ap (λ (y : Network). y.words) c.set-in-loop-j.ensures in
    let below : c.loop-j.j < n = omega (arith, c.loop-j-test.true, c.nodes-nodes.ensures.value) in
    let order : c.args.i < c.loop-j.j = omega (arith, c.loop-j.auto.j) in
    let at : c.edge_between.result ≡ edge_at n c.args.i c.loop-j.j =
    c.edge_between.ensures.value ∙ ap (λ k. edge_between k c.args.i c.loop-j.j) c.nodes-nodes.ensures.value ∙ edge_between-forward n c.args.i c.loop-j.j order in
    record {
      rest = rest-words c.args.net.now c.loop-j.net c.set-in-loop-j.new.self _ p.rest c.set-in-loop-j.ensures;
      length_is = ap (λ (y : Network). length y.words) c.set-in-loop-j.ensures ∙ length-set _ _ _ ∙ p.length_is;
      stored = rw (words, at)
          (IsRowStored-edge n c.loop-j.net.words c.args.work.now c.args.i c.loop-j.j c.set.result order below c.set.ensures p.stored);
    }

pub returns-clause-stored : goal.returns-clause-stored
returns-clause-stored c =
    let p = c.loop-j.invariant.stored in
    let n = c.args.net.now.nodes in
    let all : n ≤ c.loop-j.j = omega (arith, c.loop-j-test.false, c.nodes-nodes.ensures.value) in
    IsStored-row n c.loop-j.net.words c.args.work.now c.args.i (record { length_is = p.length_is; before = p.before; row = λ q l h. p.row q l (omega arith) })
