use Rattle.std.proofs.Common.{ℕ, ◌<◌}
use Rattle.scenario.specs.ScenarioFault.{IsMemberBetween}
use Rattle.scenario.proofs.edges.first_outside.Given as goal

abbrev pub invariant-loop-i : goal.invariant-loop-i
invariant-loop-i l = (i j : ℕ) → i < l.i → i < j → j < l.net.nodes → IsMemberBetween l.net.nodes l.net.words l.bases i j
