use Rattle.std.proofs.Common.{ℕ, ◌<◌, ◌↔◌, IsTrue, slice_get, Some, ◌≡◌}
use Rattle.network_words.specs.Edge.{IsProperTriple}
use Rattle.split_trees.specs.declared.tree.Step.{Step}
use Rattle.refutation.proofs.forms.are_proper.Given as goal

abbrev pub invariant-loop-step : goal.invariant-loop-step
invariant-loop-step l = IsTrue l.proper ↔ ((t : ℕ) (other : Step) → t < l.step-index → slice_get l.steps t ≡ Some other → IsProperTriple l.size other.i other.j other.k)
