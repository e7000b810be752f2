use Rattle.std.proofs.Common.{ℕ, ◌<◌}
use Rattle.scenario.specs.ScenarioFault.{ComposesAt}
use Rattle.scenario.proofs.triples.first_broken.Given as goal

abbrev pub invariant-loop-i : goal.invariant-loop-i
invariant-loop-i g l = (i j k : ℕ) → i < l.i → i < j → j < k → k < l.net.nodes → ComposesAt (g.C.Compose.algebra l.c) l.net.nodes l.bases i j k
