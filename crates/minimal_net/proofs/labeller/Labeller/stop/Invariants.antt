use Rattle.std.proofs.Common.{◌≡◌, length}
use Rattle.minimal_net.specs.Searching.{task_of}
use Rattle.minimal_net.proofs.labeller.Labeller.stop.Given as goal

abbrev pub invariant-loop-self : goal.invariant-loop-self
invariant-loop-self l = task_of l.self ≡ task_of l.fn.self

abbrev pub decreases-loop-self : goal.decreases-loop-self
decreases-loop-self l = length l.self.path.below
