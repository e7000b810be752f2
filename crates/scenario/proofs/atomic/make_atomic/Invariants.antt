use Rattle.std.proofs.Common.{◌≡◌, ℕ, ◌^◌, ◌<◌, length, slice_index}
use Rattle.scenario.proofs.atomic.make_atomic.Given as goal

abbrev pub invariant-loop-edge : goal.invariant-loop-edge
invariant-loop-edge l = record {
  rest : l.net ≡ record l.initial.net { words = l.net.words };
  length_is : length l.net.words ≡ length l.initial.net.words;
  atomic : (e : ℕ) → e < l.edge → slice_index l.net.words e ≡ 2 ^ slice_index l.scenario e;
}
