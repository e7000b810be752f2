use Rattle.std.proofs.Common.{arith}
use Rattle.std.proofs.lemmas.Result.{on_ok_weaker}
use Rattle.edge_propagation.proofs.propagation.propagate_from.Goals as goal

pub propagate_span-requires-clause-span : goal.propagate_span-requires-clause-span
propagate_span-requires-clause-span g c = omega (arith, c.charged_with-span.ensures.within, c.nodes.ensures.value)

pub returns-clause-settled : goal.returns-clause-settled
returns-clause-settled g c =
    on_ok_weaker c.propagate_span.result
    (λ settled k t charged. settled k t (c.charged_with-span.ensures.charged k (omega (arith, t.third_below, c.nodes.ensures.value)) charged))
    c.propagate_span.ensures.settled
