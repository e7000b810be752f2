use Rattle.std.proofs.Common.{◌≡◌, ℕ, ◌+◌, ◌^◌, ◌<◌}
use Rattle.std.specs.Prelude.{slice_index, bit_or}
use Rattle.tract_classes.proofs.compositions.add_base.Given as goal

abbrev pub invariant-loop-d : goal.invariant-loop-d
invariant-loop-d l = record {
  before : (e : ℕ) → e < 2 ^ l.k → slice_index l.table e ≡ slice_index l.initial.table e;
  here : (e : ℕ) → e < l.d → slice_index l.table (2 ^ l.k + e) ≡ bit_or (slice_index l.initial.table e) l.word;
}
