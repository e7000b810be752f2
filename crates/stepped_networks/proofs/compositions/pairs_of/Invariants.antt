use Rattle.std.proofs.Common.{◌≡◌, ℕ, ◌<◌, length}
use Rattle.std.specs.Prelude.{slice_index}
use Rattle.stepped_networks.specs.Compositions.{pair_entry}
use Rattle.stepped_networks.proofs.compositions.pairs_of.Given as goal

abbrev pub invariant-loop-e : goal.invariant-loop-e
invariant-loop-e l = record {
  length_is : length l.pairs.items ≡ l.e;
  each : (d : ℕ) → d < l.e → slice_index l.pairs.items d ≡ pair_entry l.c d;
}
