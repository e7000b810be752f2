use Rattle.std.proofs.Common.{◌≡◌, ◌+◌, ◌*◌, ◌≤◌, length}
use Rattle.std.specs.List.{All}
use Rattle.network_words.specs.Edge.{edge_count}
use Rattle.network_words.specs.Network.{Refines}
use Rattle.edge_table.specs.Opening.{IsPassOf}
use Rattle.closure_workers.specs.Workers.{HasEnded, IsSeenDesk, slices_of, slices_at}
use Rattle.closure_workers.proofs.DealtSlices.{AreAmong}
use Rattle.closure_workers.proofs.pieces.gather.Given as goal

abbrev pub invariant-loop-worker : goal.invariant-loop-worker
invariant-loop-worker l = record {
  pass : IsPassOf l.table l.all;
  weight : l.all.actor.weight ≡ l.fn.home.actor.weight + length l.desks.items;
  facts : l.all.actor.mine ≡ l.fn.home.actor.mine;
  loads : l.fn.home.loads + length l.desks.items * edge_count l.table.opening.nodes ≤ l.all.loads;
  within : Refines l.all.actor.seen l.fn.home.actor.seen;
  left : All (HasEnded l.table l.fn.home.actor.seen) l.workers.items;
  desks : All (IsSeenDesk l.table l.all.actor.seen l.fn.home.actor.seen) l.desks.items;
  among : AreAmong (slices_at l.fn.workers.items) (slices_at l.workers.items) (slices_of l.desks.items);
  count : length l.desks.items + length l.workers.items ≡ length l.fn.workers.items;
}

abbrev pub decreases-loop-worker : goal.decreases-loop-worker
decreases-loop-worker l = length l.workers.items
