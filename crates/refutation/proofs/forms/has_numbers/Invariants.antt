use Rattle.std.proofs.Common.{◌≡◌, ℕ, ◌<◌, length}
use Rattle.std.specs.Prelude.{slice_index}
use Rattle.refutation.specs.TreeFault.{child_number}
use Rattle.refutation.proofs.forms.has_numbers.Given as goal

abbrev pub invariant-loop-child : goal.invariant-loop-child
invariant-loop-child l = record {
  next_is : l.next ≡ child_number l.nodes l.x l.child-index;
  before : (p : ℕ) → p < l.child-index → (slice_index l.children p ≡ child_number l.nodes l.x p) × (slice_index l.children p < length l.nodes);
}
