use Rattle.std.proofs.Common.{◌≡◌, ◌+◌, ◌-◌, ◌*◌, length}
use Rattle.minimal_net.specs.Searching.{task_of, IsIdle, AreLabelsAt}
use Rattle.minimal_net.proofs.Shares.{AreFirst}
use Rattle.minimal_net.proofs.labeller.Labeller.share.Given as goal

abbrev pub invariant-loop-edge : goal.invariant-loop-edge
invariant-loop-edge l = record {
  task : task_of l.self ≡ task_of l.fn.self;
  idle : IsIdle l.self;
  next : l.edge ≡ l.first + length l.labels.items * l.step;
  labels : AreFirst (λ k. AreLabelsAt (task_of l.fn.self) (l.first + k * l.step)) l.labels.items;
}

abbrev pub decreases-loop-edge : goal.decreases-loop-edge
decreases-loop-edge l = l.edges - l.edge
