use Rattle.minimal_net.proofs.Leaving.{IsLeftTo}
use Rattle.minimal_net.proofs.counts.leave.Given as goal

abbrev pub invariant-loop-edge : goal.invariant-loop-edge
invariant-loop-edge l = IsLeftTo l.labels l.edge l.fn.net l.net
