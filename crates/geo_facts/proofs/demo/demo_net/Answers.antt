use Rattle.std.proofs.Common.{◌≡◌, ◌*◌, length, sym, ap, subst, ◌∙◌}
use Rattle.std.proofs.lemmas.List.{length-replicate}
use Rattle.network_words.specs.Edge.{edge_count}
use Rattle.network_words.specs.Network.{Network}
use Rattle.geo_facts.specs.Demo.{state, AreDemoRings, IsDemoTo}
use Rattle.geo_facts.proofs.demo.demo_net.Goals as goal

pub returns : goal.returns
returns c =
    let seed = c.args.seed in
    let nodes = c.args.nodes in
    let net = c.draw_relations.new.net in
    let made = c.in-Ok.ensures.ok in
    let drew = c.in_ok-count.ensures in
    let size : c.in-Ok.net.nodes ≡ nodes = ap (λ (m : Network). m.nodes) made in
    let are : AreDemoRings seed nodes c.deref.result.now = subst (AreDemoRings seed nodes) (sym c.deref.ensures.value) c.in_ok-rings.ensures.rings in
    let told = drew.drawn seed (subst (λ m. AreDemoRings seed m c.deref.result.now) (sym size) are) (c.in_ok-rings.ensures.state ∙ ap (λ m. state seed (4 * m)) (sym size)) in
    let all : IsDemoTo seed nodes c.draw_relations.new.draws.state net.words c.in_ok-count.count (edge_count nodes) = subst (λ m. IsDemoTo seed m c.draw_relations.new.draws.state net.words c.in_ok-count.count (edge_count m)) size told in
    record {
      nodes = ap (λ (m : Network). m.nodes) drew.rest ∙ size;
      full = ap (λ (m : Network). m.full) drew.rest ∙ ap (λ (m : Network). m.full) made ∙ c.of.ensures;
      names = ap (λ (m : Network). m.names) drew.rest ∙ ap (λ (m : Network). m.names) made;
      length_is = drew.length_is ∙ ap (λ (m : Network). length m.words) made ∙ length-replicate _ _;
      words = all.words_are;
      count_is = all.count_is;
    }
