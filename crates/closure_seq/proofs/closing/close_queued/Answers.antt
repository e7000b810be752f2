use Rattle.std.proofs.Common.{◌∙◌}
use Rattle.edge_propagation.proofs.Settled.{AreClosed-all}
use Rattle.edge_propagation.proofs.Loads.{IsInStep-stored}
use Rattle.closure_seq.proofs.Closures.{IsClosure-stored, IsClosure-emptied}
use Rattle.closure_seq.proofs.closing.close_queued.Goals as goal

pub propagate_all-requires-clause-settled : goal.propagate_all-requires-clause-settled
propagate_all-requires-clause-settled g c = rw (c.all_nodes-rows.ensures, c.nodes.ensures.value) c.requires.settled

pub returns-in-Err-clause-closed : goal.returns-in-Err-clause-closed
returns-in-Err-clause-closed g c =
    let m = g.C.Compose.algebra c.args.c.now in
    let net = c.args.net.now in
    let empty = c.empty_all.ensures in
    record {
      closure = IsClosure-emptied m net.nodes net.words c.empty_all.new.net.words c.args.pairs.now
          c.propagate_all.new.work c.requires.network c.requires.in_step c.in-Err.ensures.refined
          c.requires.ready.calculus c.in-Err.ensures.empty empty.length_is empty.empty;
      rest = empty.rest;
    }

pub returns-in_default-clause-closed : goal.returns-in_default-clause-closed
returns-in_default-clause-closed g c =
    let m = g.C.Compose.algebra c.args.c.now in
    let net = c.args.net.now in
    let done = c.propagate_all.new.work in
    let words = c.store.new.net.words in
    let start = c.requires.in_step in
    let r = c.in_default.ensures.refined in
    let at = r.nodes ∙ start.nodes in
    let closed = AreClosed-all m net.nodes done at
    (rw (c.all_nodes-rows.ensures, c.nodes.ensures.value) at c.in_default.ensures.closed) in
    let stored = IsInStep-stored m net.nodes words done at r.sets c.store.ensures.stored in
    record {
      closure = IsClosure-stored m net.nodes net.words words c.args.pairs.now done c.requires.network start r closed
          stored c.store.ensures.length_is;
      rest = c.store.ensures.rest;
    }
