use Rattle.std.proofs.Common.{ℕ, List, ◌∙◌, subst}
use Rattle.edge_propagation.specs.Propagation.{AreRowsMet, all_nodes}
use Rattle.edge_propagation.proofs.Settled.{IsSettled-met}
use Rattle.edge_propagation.proofs.Loads.{AreClosed-in_step}
use Rattle.closure_seq.proofs.Closures.{IsSettled-closed, IsInStep-met}
use Rattle.closure_seq.proofs.closing.close_met.Goals as goal

pub close_queued-requires-clause-in_step : goal.close_queued-requires-clause-in_step
close_queued-requires-clause-in_step g c =
    let m = g.C.Compose.algebra c.args.c.now in
    let net = c.args.net.now in
    let old = c.args.pairs.now in
    let new = c.meet.new.work in
    let w = c.requires.within in
    IsInStep-met m net.nodes w.larger net.words old new w.in_step w.within c.meet.ensures.met
    (subst (λ (ws : List ℕ). AreRowsMet ws old new old.nodes) c.words.ensures.value c.meet.ensures.rows)

pub close_queued-requires-clause-ready : goal.close_queued-requires-clause-ready
close_queued-requires-clause-ready g c =
    let r = c.requires.ready in
    let met = c.meet.ensures.met in
    record {
      calculus = r.calculus;
      few = r.few;
      enough = r.enough;
      planes_are = met.planes ∙ r.planes_are;
      sets = met.sets;
    }

pub close_queued-requires-clause-settled : goal.close_queued-requires-clause-settled
close_queued-requires-clause-settled g c =
    let m = g.C.Compose.algebra c.args.c.now in
    let net = c.args.net.now in
    let old = c.args.pairs.now in
    let rows = all_nodes net.nodes in
    let w = c.requires.within in
    IsSettled-met m rows old c.meet.new.work c.meet.ensures.met
    (IsSettled-closed m rows old (AreClosed-in_step m net.nodes w.larger old w.in_step w.closed.closed))
