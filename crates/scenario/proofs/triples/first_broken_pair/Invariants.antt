use Rattle.std.proofs.Common.{ℕ, ◌<◌}
use Rattle.scenario.specs.ScenarioFault.{ComposesAt}
use Rattle.scenario.proofs.triples.first_broken_pair.Given as goal

abbrev pub invariant-loop-j : goal.invariant-loop-j
invariant-loop-j g l = (j k : ℕ) → l.i < j → j < l.j → j < k → k < l.net.nodes → ComposesAt (g.C.Compose.algebra l.c) l.net.nodes l.bases l.i j k
