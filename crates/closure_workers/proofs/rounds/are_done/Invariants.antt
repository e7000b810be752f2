use Rattle.std.proofs.Common.{◌≡◌, ℕ, ◌<◌}
use Rattle.std.specs.Prelude.{slice_index_or}
use Rattle.closure_workers.specs.declared.worker.Desk.{Desk}
use Rattle.closure_workers.proofs.rounds.are_done.Given as goal

abbrev pub invariant-loop-desk : goal.invariant-loop-desk
invariant-loop-desk l = (k : ℕ) (d : Desk) → k < l.desk-index → (slice_index_or l.desks k d).snap ≡ l.words
