use Rattle.std.proofs.Common.{◌≡◌, ◌+◌, ◌-◌, ◌≤◌, drop, length, vec_len, vec_capacity}
use Rattle.network_words.specs.Network.{IsNetwork}
use Rattle.split_trees.specs.Refutes.{after_steps}
use Rattle.stepped_networks.specs.Networks.{KeepsTrail}
use Rattle.stepped_networks.proofs.stepped.take_steps.Given as goal

abbrev pub invariant-loop-step : goal.invariant-loop-step
invariant-loop-step g l = record {
  network : IsNetwork (g.C.Compose.algebra l.c) l.net.nodes l.net.words;
  rest : l.net ≡ record l.initial.net { words = l.net.words };
  left : after_steps (g.C.Compose.algebra l.c) l.net.nodes l.net.words (drop l.step-index l.steps) ≡ after_steps (g.C.Compose.algebra l.c) l.initial.net.nodes l.initial.net.words l.steps;
  room : vec_len l.trail + (length l.steps - l.step-index) ≤ vec_capacity l.trail;
  trail : KeepsTrail l.initial.net.nodes l.initial.net.words l.initial.trail.items l.net.words l.trail.items;
}
