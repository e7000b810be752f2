use Rattle.std.proofs.Common.{◌≡◌, ◌+◌, refl, sym, ap, subst, ◌∙◌, arith, rules}
use Rattle.network_words.specs.Edge.{edge_count, edge_at}
use Rattle.network_words.specs.Network.{Network}
use Rattle.geo_facts.specs.Demo.{AreDemoRings, IsDemoTo}
use Rattle.geo_facts.proofs.Drawings.{IsDemoTo-none, edge_at-start, edge_at-all}
use Rattle.geo_facts.proofs.demo.draw_relations.Goals as goal

pub loop-i-init : goal.loop-i-init
loop-i-init c =
    let net = c.args.net.now in
    record {
      rest = refl;
      length_is = refl;
      few = omega arith;
      drawn = λ seed are state_is. IsDemoTo-none seed net.nodes c.args.draws.now.state net.words (edge_at net.nodes 0 1) (edge_at-start net.nodes) state_is;
    }

pub loop-i-preserved : goal.loop-i-preserved
loop-i-preserved c =
    let net = c.args.net.now in
    let n = net.nodes in
    let i = c.loop-i.i in
    let same : c.loop-i.net.nodes ≡ n = ap (λ (m : Network). m.nodes) c.loop-i.invariant.rest in
    record {
      rest = search rules;
      length_is = c.draw_row.ensures.length_is ∙ c.loop-i.invariant.length_is;
      few = c.in_ok-count.ensures.count;
      drawn = λ seed are state_is.
          let two : i + 1 + 1 ≡ i + 2 = omega arith in
          let before = c.loop-i.invariant.drawn seed are state_is in
          subst (λ k. IsDemoTo seed n c.draw_row.new.draws.state c.draw_row.new.net.words c.in_ok-count.count (edge_at n (i + 1) k)) (sym two)
          (subst (λ m. IsDemoTo seed m c.draw_row.new.draws.state c.draw_row.new.net.words c.in_ok-count.count (edge_at m (i + 1) (i + 2))) same
          (c.in_ok-count.ensures.drawn seed (subst (λ m. AreDemoRings seed m c.args.rings.now) (sym same) are) (subst (λ m. IsDemoTo seed m c.loop-i.draws.state c.loop-i.net.words c.loop-i.count (edge_at m i (i + 1))) (sym same) before)));
    }

pub returns-clause-drawn : goal.returns-clause-drawn
returns-clause-drawn c = λ seed are state_is.
    let n = c.args.net.now.nodes in
    let end : c.loop-i.i ≡ n = omega (arith, c.loop-i-test.false) in
    let all : edge_at n c.loop-i.i (c.loop-i.i + 1) ≡ edge_count n = ap (λ k. edge_at n k (k + 1)) end ∙ edge_at-all n in
    subst (IsDemoTo seed n c.loop-i.draws.state c.loop-i.net.words c.loop-i.count) all (c.loop-i.invariant.drawn seed are state_is)
