use Rattle.std.proofs.Common.{◌≡◌, ℕ, ◌<◌, length}
use Rattle.std.specs.Prelude.{slice_index}
use Rattle.stepped_networks.specs.Networks.{KeepsTrail}
use Rattle.stepped_networks.proofs.stepped.replace_all.Given as goal

abbrev pub invariant-loop-edge : goal.invariant-loop-edge
invariant-loop-edge l = record {
  rest : l.net ≡ record l.initial.net { words = l.net.words };
  length_is : length l.net.words ≡ length l.initial.net.words;
  done : (e : ℕ) → e < l.edge → slice_index l.net.words e ≡ slice_index l.other.words e;
  trail : KeepsTrail l.initial.net.nodes l.initial.net.words l.initial.trail.items l.net.words l.trail.items;
}
