use Rattle.std.proofs.Common.{◌≡◌, ◌+◌, ◌⊎◌, true}
use Rattle.std.specs.Prelude.{sum, if◌then◌else◌}
use Rattle.std.specs.List.{All}
use Rattle.closure_workers.specs.declared.worker.Desk.{Desk}
use Rattle.closure_workers.specs.Slices.{HasClash}
use Rattle.closure_workers.proofs.OneRound.{HaveGoneOn}
use Rattle.closure_workers.proofs.rounds.rounds.Given as goal

abbrev pub invariant-loop-is_done : goal.invariant-loop-is_done
invariant-loop-is_done g l = record {
  gone : HaveGoneOn l.table l.fn.workers l.snap l.workers;
  done : l.is_done ≡ true → HasClash l.table.opening.nodes l.snap ⊎ All (λ (d : Desk). d.snap ≡ l.snap) l.workers.desks.items;
}

abbrev pub decreases-loop-is_done : goal.decreases-loop-is_done
decreases-loop-is_done g l = if l.is_done then 0 else sum l.workers.home.actor.seen + 1
