use Rattle.std.proofs.Common.{◌≡◌, drop}
use Rattle.std.specs.Prelude.{bit_or}
use Rattle.split_trees.specs.Refutes.{union_of}
use Rattle.refutation.proofs.walking.union_of.Given as goal

abbrev pub invariant-loop-part : goal.invariant-loop-part
invariant-loop-part l = bit_or l.all (union_of (drop l.part-index l.parts)) ≡ union_of l.parts
