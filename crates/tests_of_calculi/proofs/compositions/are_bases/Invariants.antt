use Rattle.std.proofs.Common.{ℕ, ◌<◌, slice_index}
use Rattle.tests_of_calculi.proofs.compositions.are_bases.Given as goal

abbrev pub invariant-loop-r : goal.invariant-loop-r
invariant-loop-r l = (k : ℕ) → k < l.r-index → slice_index l.fn.converses k < 64
