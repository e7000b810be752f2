use Rattle.std.proofs.Common.{arith}
use Rattle.std.proofs.lemmas.Result.{on_ok_weaker}
use Rattle.edge_propagation.proofs.sweeping.sweep_along.Goals as goal

pub returns-clause-settled : goal.returns-clause-settled
returns-clause-settled g c =
    on_ok_weaker c.propagate_span.result
    (λ settled _ k above t. settled k t (record { from = omega (arith, above); below = omega (arith, t.third_below, c.nodes-nodes.ensures.value) }))
    c.propagate_span.ensures.settled
