use Rattle.std.proofs.Common.{◌≡◌, ℕ, ◌<◌}
use Rattle.std.specs.Prelude.{slice_index}
use Rattle.network_words.specs.Edge.{edge_at}
use Rattle.edge_propagation.specs.Worklist.{set_of}
use Rattle.edge_propagation.proofs.loading.is_row_stored.Given as goal

abbrev pub invariant-loop-j : goal.invariant-loop-j
invariant-loop-j g l = (q : ℕ) → l.i < q → q < l.j → slice_index l.words (edge_at l.work.nodes l.i q) ≡ set_of l.work l.i q
