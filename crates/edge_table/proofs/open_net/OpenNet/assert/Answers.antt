use Rattle.std.proofs.Common.{◌∙◌, sym, ap, subst}
use Rattle.calculus_table.specs.Algebra.{Algebra}
use Rattle.calculus_table.specs.Composition.{full_of}
use Rattle.network_words.specs.Edge.{edge_between}
use Rattle.network_words.specs.Network.{oriented}
use Rattle.narrow_core.specs.Machine.{IsProperFact}
use Rattle.edge_table.specs.Opening.{OpenState}
use Rattle.edge_table.specs.Passes.{Asserts}
use Rattle.edge_table.proofs.Passes.{relation-within}
use Rattle.edge_table.proofs.open_net.OpenNet.assert.Goals as goal

pub state-requires-clause-proper : goal.state-requires-clause-proper
state-requires-clause-proper g c =
    subst (λ (m : Algebra). IsProperFact c.args.self.now.opening.nodes (full_of m) c.args.fact) c.requires.calculus c.requires.proper

pub state-requires-clause-edge : goal.state-requires-clause-edge
state-requires-clause-edge g c =
    c.edge_between-edge.ensures.value
    ∙ ap (λ n. edge_between n c.args.fact.i c.args.fact.j) (c.self.invariant.nodes_are ∙ ap (λ (t : OpenState). t.opening.nodes) c.self.view_is)

pub state-requires-clause-operand : goal.state-requires-clause-operand
state-requires-clause-operand g c =
    c.word.ensures ∙ c.oriented-operand.ensures.value ∙ ap (λ (m : Algebra). oriented m c.args.fact.i c.args.fact.j c.args.fact.rel) c.requires.calculus

pub returns-clause-asserts : goal.returns-clause-asserts
returns-clause-asserts g c =
    subst (λ (m : Algebra). Asserts m c.args.fact c.args.pass.now c.state.new.pass) (sym c.requires.calculus) c.state.ensures.asserts

pub returns-clause-within : goal.returns-clause-within
returns-clause-within g c =
    relation-within (g.C.Compose.algebra c.args.c.now) c.state.new.pass.nodes c.self.inside.nodes c.edge_between-edge.result c.args.fact.i c.args.fact.j c.args.fact.rel c.word.result
    c.state.new.pass.actor.seen c.lawful.ensures c.requires.proper.within c.edge_between-edge.ensures.value
    (c.state.ensures.pass.nodes ∙ sym (c.self.invariant.nodes_are ∙ ap (λ (t : OpenState). t.opening.nodes) c.self.view_is))
    (c.word.ensures ∙ c.oriented-operand.ensures.value) c.state.ensures.within
