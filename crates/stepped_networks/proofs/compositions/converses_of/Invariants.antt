use Rattle.std.proofs.Common.{◌≡◌, ℕ, ◌<◌, length}
use Rattle.std.specs.Prelude.{slice_index}
use Rattle.stepped_networks.specs.Compositions.{converse_entry}
use Rattle.stepped_networks.proofs.compositions.converses_of.Given as goal

abbrev pub invariant-loop-b : goal.invariant-loop-b
invariant-loop-b l = record {
  length_is : length l.converses.items ≡ l.b;
  each : (e : ℕ) → e < l.b → slice_index l.converses.items e ≡ converse_entry l.c e;
}
