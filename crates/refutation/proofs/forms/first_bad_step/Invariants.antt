use Rattle.std.proofs.Common.{ℕ, ◌<◌, slice_get, Some, ◌≡◌}
use Rattle.network_words.specs.Edge.{IsProperTriple}
use Rattle.split_trees.specs.declared.tree.Step.{Step}
use Rattle.refutation.proofs.forms.first_bad_step.Given as goal

abbrev pub invariant-loop-s : goal.invariant-loop-s
invariant-loop-s l = (t : ℕ) (other : Step) → t < l.s → slice_get l.steps t ≡ Some other → IsProperTriple l.size other.i other.j other.k
