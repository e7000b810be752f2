use Rattle.minimal_net.proofs.Labels.{IsNetwork-set, IsTrueOf-set, AreSearched-label}
use Rattle.minimal_net.proofs.labelling.minimal.Goals as goal

pub solve-requires-clause-network : goal.solve-requires-clause-network
solve-requires-clause-network g c =
    IsNetwork-set (g.C.Compose.algebra c.args.c.now) c.args.net.now c.in_ok-met.met c.args.edge c.args.base
    c.in_ok-met.ensures c.requires.network c.requires.edge

pub returns-clause-is_true : goal.returns-clause-is_true
returns-clause-is_true g c =
    IsTrueOf-set (g.C.Compose.algebra c.args.c.now) c.args.net.now c.in_ok-met.met c.args.edge c.args.base
    c.args.budget c.in_ok-verdict.verdict _ c.in_ok-met.ensures c.label_of.ensures c.lawful.ensures
    c.requires.network c.requires.edge c.in_ok-verdict.ensures.is_true

pub returns-clause-nodes : goal.returns-clause-nodes
returns-clause-nodes g c =
    AreSearched-label c.args.budget c.in_ok-verdict.verdict _ c.label_of.ensures c.in_ok-verdict.ensures.nodes
