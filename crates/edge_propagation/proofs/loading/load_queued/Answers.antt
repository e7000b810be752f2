use Rattle.std.proofs.Common.{ℕ, subst}
use Rattle.edge_propagation.specs.Worklist.{IsBegun}
use Rattle.edge_propagation.proofs.Loads.{IsInStep-queue}
use Rattle.edge_propagation.proofs.loading.load_queued.Goals as goal

pub returns-clause-in_step : goal.returns-clause-in_step
returns-clause-in_step g c =
    IsInStep-queue (g.C.Compose.algebra c.args.c.now) c.args.work.now.nodes c.args.words.now c.load_with_tables.new.work c.push_lesser.new.self c.push_lesser.ensures.rest c.load_with_tables.ensures.in_step

pub returns-clause-begun : goal.returns-clause-begun
returns-clause-begun g c =
    let work = c.push_lesser.new.self in
    subst (λ (full : ℕ). IsBegun work full work.nodes) c.full.ensures c.push_lesser.ensures.begun
