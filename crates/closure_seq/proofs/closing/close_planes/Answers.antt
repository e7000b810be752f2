use Rattle.std.proofs.Common.{ℕ, List, sym, subst}
use Rattle.network_words.specs.Network.{IsNetwork}
use Rattle.edge_propagation.specs.Propagation.{IsInStep, all_nodes}
use Rattle.edge_propagation.proofs.Starts.{IsSettled-begun}
use Rattle.edge_propagation.proofs.Loads.{AreConverses-in_step}
use Rattle.closure_seq.proofs.closing.close_planes.Goals as goal

pub load_queued-requires-clause-network : goal.load_queued-requires-clause-network
load_queued-requires-clause-network g c =
    let m = g.C.Compose.algebra c.args.c.now in
    subst (λ n. IsNetwork m n c.words.result.now) (sym c.requires.nodes)
    (subst (λ (ws : List ℕ). IsNetwork m c.args.net.now.nodes ws) (sym c.words.ensures.value) c.requires.network)

pub close_queued-requires-clause-in_step : goal.close_queued-requires-clause-in_step
close_queued-requires-clause-in_step g c =
    let m = g.C.Compose.algebra c.args.c.now in
    let work = c.load_queued.new.work in
    subst (λ (ws : List ℕ). IsInStep m c.args.net.now.nodes ws work) c.words.ensures.value
    (subst (λ n. IsInStep m n c.words.result.now work) c.requires.nodes c.load_queued.ensures.in_step)

pub close_queued-requires-clause-ready : goal.close_queued-requires-clause-ready
close_queued-requires-clause-ready g c =
    let m = g.C.Compose.algebra c.args.c.now in
    let net = c.args.net.now in
    record {
      calculus = c.lawful.ensures;
      few = c.requires.few;
      enough = c.requires.enough;
      planes_are = c.load_queued.ensures.planes;
      sets = AreConverses-in_step m net.nodes net.words c.load_queued.new.work c.lawful.ensures c.requires.network
          (close_queued-requires-clause-in_step g c);
    }

pub close_queued-requires-clause-settled : goal.close_queued-requires-clause-settled
close_queued-requires-clause-settled g c =
    let m = g.C.Compose.algebra c.args.c.now in
    let rows = all_nodes c.args.net.now.nodes in
    let ready = close_queued-requires-clause-ready g c in
    IsSettled-begun m rows c.load_queued.new.work c.lawful.ensures ready.sets c.load_queued.ensures.begun
