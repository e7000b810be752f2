use Rattle.std.proofs.Common.{◌∙◌, ap, sym, subst}
use Rattle.calculus_table.specs.Rel.{IsWithin}
use Rattle.edge_table.specs.Opening.{OpenState}
use Rattle.edge_table.specs.Passes.{seen_between}
use Rattle.edge_table.proofs.Passes.{Reads-less, shown-relation}
use Rattle.edge_table.proofs.open_net.OpenNet.peek.Goals as goal

pub returns-clause-value : goal.returns-clause-value
returns-clause-value g c =
    shown-relation (g.C.Compose.algebra c.args.c.now) c.load-found.new.pass.nodes c.self.inside.nodes c.edge_between-edge.result c.args.i c.args.j c.load-found.result c.oriented.result c.of.result
    c.load-found.new.pass.actor.seen c.edge_between-edge.ensures.value
    (c.load-found.ensures.pass.nodes ∙ sym (c.self.invariant.nodes_are ∙ ap (λ (t : OpenState). t.opening.nodes) c.self.view_is))
    c.load-found.ensures.shown c.of.ensures c.oriented.ensures.value

pub returns-clause-fresh : goal.returns-clause-fresh
returns-clause-fresh g c =
    let m = g.C.Compose.algebra c.args.c.now in
    subst (λ x. IsWithin x (seen_between m c.args.pass.now c.args.i c.args.j)) (sym (returns-clause-value g c))
    (Reads-less m c.edge_between-edge.result c.args.i c.args.j c.args.pass.now c.load-found.new.pass (record { word = c.load-found.result; after = c.load-found.ensures.sees }))
