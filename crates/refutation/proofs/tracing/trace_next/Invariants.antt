use Rattle.std.proofs.Common.{◌≡◌, ◌∷◌, reverse, vec_len}
use Rattle.refutation.specs.Tracings.{IsTracing}
use Rattle.refutation.proofs.tracing.trace_next.Given as goal

abbrev pub invariant-loop-way : goal.invariant-loop-way
invariant-loop-way l = record {
  tracing : IsTracing l.initial.networks.algebra l.net.nodes l.net.words l.nodes l.x l.traced.items (reverse l.way.items) (l.networks.top ∷ l.networks.under);
  rest : l.networks ≡ record l.initial.networks { top = l.networks.top; under = l.networks.under };
}

abbrev pub decreases-loop-way : goal.decreases-loop-way
decreases-loop-way l = vec_len l.way
