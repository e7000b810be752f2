use Rattle.std.proofs.Common.{◌≡◌, ap, ◌∙◌, sym, subst, None}
use Rattle.network_words.specs.Facts.{narrowed_by}
use Rattle.network_words.specs.NetFault.{first_fault}
use Rattle.network_words.specs.Edge.{IsProperPair}
use Rattle.network_words.proofs.NetsOfFacts.{narrowed_by-end, proper_at, IsNetworkOfFacts-sound}
use Rattle.network_words.proofs.net.Net.add_facts.Goals as goal

pub narrow-requires-clause-proper : goal.narrow-requires-clause-proper
narrow-requires-clause-proper g c =
    let none = sym c.first_fault.ensures ∙ c.in_default.is in
    let pair = proper_at c.self.inside.nodes c.loop-fact.fact-index c.args.facts.now c.fact-item.result none c.loop-fact-test.true c.fact-item.is in
    subst (λ n. IsProperPair n c.fact-item.result.i c.fact-item.result.j) (ap (λ net. net.nodes) c.self.view_is ∙ sym c.loop-fact.invariant.nodes) pair

pub returns-clause-net : goal.returns-clause-net
returns-clause-net g c = λ full.
    let net = c.args.self.now in
    let met : c.loop-fact.self.words ≡ narrowed_by (g.C.Compose.algebra c.args.c.now) net.nodes net.words c.args.facts.now =
    narrowed_by-end (g.C.Compose.algebra c.args.c.now) c.loop-fact.self.nodes net.nodes c.loop-fact.fact-index c.loop-fact.self.words net.words c.args.facts.now c.loop-fact-test.false c.loop-fact.invariant.words in
    let none : first_fault net.nodes 0 c.args.facts.now ≡ None =
    ap (λ n. first_fault n 0 c.args.facts.now) (sym (ap (λ n. n.nodes) c.self.view_is)) ∙ sym c.first_fault.ensures ∙ c.in_default.is in
    IsNetworkOfFacts-sound (g.C.Compose.algebra c.args.c.now) net.nodes net.words c.loop-fact.self.words c.args.facts.now none met full
