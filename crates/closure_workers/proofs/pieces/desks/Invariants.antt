use Rattle.std.proofs.Common.{◌≡◌, ◌-◌, ◌<◌, ◌≤◌, length}
use Rattle.std.specs.List.{All}
use Rattle.calculus_table.specs.Algebra.{Algebra}
use Rattle.closure_workers.specs.declared.worker.Desk.{Desk}
use Rattle.closure_workers.specs.Workers.{IsDesk, AreDealt, slices_of}
use Rattle.closure_workers.proofs.pieces.desks.Given as goal

abbrev pub invariant-loop-number : goal.invariant-loop-number
invariant-loop-number l = record {
  below : l.from ≤ l.edges;
  last : l.number ≡ l.count → l.from ≡ l.edges;
  share : l.count ≤ l.edges → l.count - l.number ≤ l.edges - l.from;
  desks : (m : Algebra) → All (IsDesk m l.nodes) l.desks.items;
  dealt : AreDealt (slices_of l.desks.items) l.from;
  some : l.count ≤ l.edges → All (λ (desk : Desk). desk.slice.from < desk.slice.to) l.desks.items;
  count : length l.desks.items ≡ l.number;
}
