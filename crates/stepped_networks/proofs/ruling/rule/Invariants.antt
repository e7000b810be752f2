use Rattle.std.proofs.Common.{◌≡◌, sum}
use Rattle.network_words.specs.Network.{IsNetwork}
use Rattle.stepped_networks.specs.Networks.{KeepsTrail}
use Rattle.stepped_networks.proofs.Passes.{AreAtPass}
use Rattle.stepped_networks.proofs.ruling.rule.Given as goal

abbrev pub invariant-loop-made : goal.invariant-loop-made
invariant-loop-made l = record {
  at : AreAtPass l.c l.initial.net.nodes l.cut l.initial.net.words l.made.items l.net.words;
  network : IsNetwork l.c l.initial.net.nodes l.net.words;
  rest : l.net ≡ record l.initial.net { words = l.net.words };
  trail : KeepsTrail l.initial.net.nodes l.initial.net.words l.initial.trail.items l.net.words l.trail.items;
}

abbrev pub decreases-loop-made : goal.decreases-loop-made
decreases-loop-made l = sum l.net.words
