use Rattle.std.proofs.Common.{◌≡◌, ◌+◌, ◌<◌, length, slice_set, sym, ap, subst, ◌∙◌, arith, rules}
use Rattle.std.proofs.lemmas.List.{get_or_read}
use Rattle.network_words.specs.Edge.{edge_count, edge_at}
use Rattle.network_words.specs.Network.{Network}
use Rattle.geo_facts.specs.Demo.{ring_of, IsDemoTo, IsDrawn}
use Rattle.geo_facts.proofs.Drawings.{IsDemoTo-more, edge_at-row_next}
use Rattle.geo_facts.proofs.demo.draw_row.Goals as goal

pub loop-j-preserved : goal.loop-j-preserved
loop-j-preserved c =
    let net = c.args.net.now in
    let n = net.nodes in
    let i = c.args.i in
    let j = c.loop-j.j in
    let words = c.loop-j.net.words in
    let drawn = c.in_ok-drawn.drawn in
    let rings = c.args.rings.now in
    let read = c.in_ok-drawn.ensures in
    let same : c.loop-j.net.nodes ≡ n = ap (λ (m : Network). m.nodes) c.loop-j.invariant.rest in
    let edge : c.edge.result ≡ edge_at n i j = c.edge.ensures.value ∙ ap (λ m. edge_at m i j) same in
    let below : j < n = omega (arith, c.loop-j-test.true, c.nodes-j-end.ensures.value) in
    let written : c.set.new.self.words ≡ slice_set words (edge_at n i j) drawn.rel = ap (λ (m : Network). m.words) c.set.ensures ∙ ap (λ e. slice_set words e drawn.rel) edge in
    let first : c.index-rings-i.result ≡ ring_of rings i = get_or_read rings _ _ (omega (arith, c.requires.rings)) c.index-rings-i.is _ in
    let second : c.index-rings-j.result ≡ ring_of rings j = get_or_read rings _ _ (omega (arith, c.requires.rings, below)) c.index-rings-j.is _ in
    let is : IsDrawn c.loop-j.draws.state (ring_of rings i) (ring_of rings j) drawn.rel drawn.count =
    subst (λ vs. IsDrawn c.loop-j.draws.state vs (ring_of rings j) drawn.rel drawn.count) first (subst (λ ws. IsDrawn c.loop-j.draws.state c.index-rings-i.result ws drawn.rel drawn.count) second read.drawn) in
    record {
      rest = search rules;
      length_is = search rules;
      few = omega (arith, c.loop-j.invariant.few, read.count);
      drawn = λ seed are before.
          let size : length words ≡ edge_count n = omega (arith, c.loop-j.invariant.length_is, c.nodes-j-end.ensures.shape.length_is) in
          subst (λ ws. IsDemoTo seed n c.draw_relation.new.draws.state ws (c.loop-j.kept + drawn.count) (edge_at n i (j + 1))) (sym written)
          (IsDemoTo-more seed n c.loop-j.draws.state words rings i j (omega (arith, c.loop-j.auto.j)) below size are c.draw_relation.new.draws.state drawn.rel c.loop-j.kept drawn.count (c.loop-j.invariant.drawn seed are before) is read.state);
    }

pub returns-clause-drawn : goal.returns-clause-drawn
returns-clause-drawn c = λ seed are before.
    let n = c.args.net.now.nodes in
    let i = c.args.i in
    let end : c.loop-j.j ≡ n = omega (arith, c.loop-j.auto.j-end, c.loop-j-test.false, c.nodes-j-end.ensures.value, c.requires.node) in
    let next : edge_at n i c.loop-j.j ≡ edge_at n (i + 1) (i + 2) = ap (edge_at n i) end ∙ sym (edge_at-row_next n i c.requires.node) in
    subst (IsDemoTo seed n c.loop-j.draws.state c.loop-j.net.words c.loop-j.kept) next (c.loop-j.invariant.drawn seed are before)
