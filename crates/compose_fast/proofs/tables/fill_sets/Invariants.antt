use Rattle.std.proofs.Common.{◌≡◌, ℕ, ◌+◌, ◌*◌, ◌<◌, length}
use Rattle.std.specs.Prelude.{slice_index}
use Rattle.calculus_table.specs.Rel.{IsWithin}
use Rattle.calculus_table.specs.Composition.{full_of}
use Rattle.compose_fast.specs.Planes.{IsTableOf}
use Rattle.compose_fast.proofs.tables.fill_sets.Given as goal

abbrev pub invariant-loop-a : goal.invariant-loop-a
invariant-loop-a g l = record {
  length_is : length l.bases ≡ length l.initial.bases;
  before : (e : ℕ) → e < 131072 → slice_index l.bases e ≡ slice_index l.initial.bases e;
  sets : (b : ℕ) → b < l.a → IsWithin b (full_of (g.C.Compose.algebra l.c)) → IsTableOf (g.C.Compose.algebra l.c) b l.bases (131072 + 32 * b);
}
