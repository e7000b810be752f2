use Rattle.std.proofs.Common.{◌≡◌, ℕ, ◌<◌}
use Rattle.std.specs.Prelude.{slice_index, slice_set}
use Rattle.split_search.proofs.searching.is_narrowed.Given as goal

abbrev pub invariant-loop-other : goal.invariant-loop-other
invariant-loop-other l = (d : ℕ) → d < l.other →
    slice_index l.net.words d ≡ slice_index (slice_set l.path.top l.edge l.part) d
