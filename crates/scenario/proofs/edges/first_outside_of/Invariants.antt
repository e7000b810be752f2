use Rattle.scenario.specs.ScenarioFault.{IsMemberBetween}
use Rattle.scenario.specs.Places.{EachFrom}
use Rattle.std.proofs.Common.{◌+◌}
use Rattle.scenario.proofs.edges.first_outside_of.Given as goal

abbrev pub invariant-loop-j : goal.invariant-loop-j
invariant-loop-j l = EachFrom (l.i + 1) l.j (IsMemberBetween l.net.nodes l.net.words l.bases l.i)
