use Rattle.std.proofs.Common.{◌≡◌, ◌+◌, length}
use Rattle.std.specs.List.{All}
use Rattle.narrow_core.specs.Actor.{giving}
use Rattle.edge_table.specs.Opening.{IsPassOf, algebra_of}
use Rattle.closure_workers.specs.Workers.{IsDesk, IsFreshWorker, slices_of, slices_at}
use Rattle.closure_workers.proofs.DealtSlices.{AreAmong}
use Rattle.closure_workers.proofs.pieces.deal.Given as goal

abbrev pub invariant-loop-desk : goal.invariant-loop-desk
invariant-loop-desk l = record {
  pass : IsPassOf l.table l.rest;
  rest : l.rest ≡ record l.fn.pass { actor = giving (length l.workers.items) l.fn.pass.actor };
  left : All (IsDesk (algebra_of l.table.opening) l.table.opening.nodes) l.desks.items;
  workers : All (IsFreshWorker l.table l.fn.pass.actor.seen) l.workers.items;
  among : AreAmong (slices_of l.fn.desks.items) (slices_of l.desks.items) (slices_at l.workers.items);
  count : length l.workers.items + length l.desks.items ≡ length l.fn.desks.items;
}

abbrev pub decreases-loop-desk : goal.decreases-loop-desk
decreases-loop-desk l = length l.desks.items
