use Rattle.std.proofs.Common.{◌≡◌, take}
use Rattle.network_words.specs.Network.{IsNetwork}
use Rattle.stepped_networks.specs.Networks.{KeepsTrail}
use Rattle.stepped_networks.specs.Passes.{GoesThrough}
use Rattle.stepped_networks.proofs.ruling.pass.Given as goal

abbrev pub invariant-loop-step : goal.invariant-loop-step
invariant-loop-step l = record {
  going : GoesThrough l.c l.initial.net.nodes l.cut (take l.step-index l.all) l.initial.made.items l.initial.net.words l.made.items l.net.words;
  network : IsNetwork l.c l.initial.net.nodes l.net.words;
  rest : l.net ≡ record l.initial.net { words = l.net.words };
  trail : KeepsTrail l.initial.net.nodes l.initial.net.words l.initial.trail.items l.net.words l.trail.items;
}
