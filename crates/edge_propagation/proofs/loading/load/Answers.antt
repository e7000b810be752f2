use Rattle.std.proofs.Common.{◌≤◌, arith}
use Rattle.edge_propagation.proofs.Loads.{IsInStep-loaded}
use Rattle.edge_propagation.proofs.loading.load.Goals as goal

pub returns-clause-in_step : goal.returns-clause-in_step
returns-clause-in_step g c =
    let p = c.loop-i.invariant in
    let all : c.args.work.now.nodes ≤ c.loop-i.i = omega (arith, c.loop-i-test.false, c.nodes-nodes.ensures.value) in
    IsInStep-loaded (g.C.Compose.algebra c.args.c.now) c.args.work.now.nodes c.args.words.now c.loop-i.work p.nodes (λ i j l o b. p.loaded i j (omega arith) o b)
