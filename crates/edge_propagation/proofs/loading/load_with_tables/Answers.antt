use Rattle.std.proofs.Common.{ap, sym, subst}
use Rattle.network_words.specs.Network.{IsNetwork}
use Rattle.edge_propagation.specs.Worklist.{Worklist}
use Rattle.edge_propagation.specs.Propagation.{IsInStep}
use Rattle.edge_propagation.proofs.loading.load_with_tables.Goals as goal

pub load-requires-clause-network : goal.load-requires-clause-network
load-requires-clause-network g c =
    subst (λ n. IsNetwork (g.C.Compose.algebra c.args.c.now) n c.args.words.now) (sym (ap (λ (y : Worklist). y.nodes) c.set_planes.ensures)) c.requires.network

pub returns-clause-in_step : goal.returns-clause-in_step
returns-clause-in_step g c =
    subst (λ n. IsInStep (g.C.Compose.algebra c.args.c.now) n c.args.words.now c.load.new.work) (ap (λ (y : Worklist). y.nodes) c.set_planes.ensures) c.load.ensures.in_step
