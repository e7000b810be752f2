use Rattle.std.proofs.Common.{◌≡◌, ◌∷◌, reverse}
use Rattle.refutation.specs.Ways.{IsStanding}
use Rattle.refutation.proofs.walking.walk.Given as goal

abbrev pub invariant-loop-x : goal.invariant-loop-x
invariant-loop-x l = record {
  standing : IsStanding l.initial.networks.algebra l.net.nodes l.net.words l.nodes l.x (reverse l.way.items) (l.networks.top ∷ l.networks.under);
  rest : l.networks ≡ record l.initial.networks { top = l.networks.top; under = l.networks.under };
}
