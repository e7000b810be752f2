use Rattle.std.proofs.Common.{◌+◌}
use Rattle.scenario.specs.ScenarioFault.{ComposesAt}
use Rattle.scenario.specs.Places.{EachFrom}
use Rattle.scenario.proofs.triples.first_broken_third.Given as goal

abbrev pub invariant-loop-k : goal.invariant-loop-k
invariant-loop-k g l = EachFrom (l.j + 1) l.k (ComposesAt (g.C.Compose.algebra l.c) l.net.nodes l.bases l.i l.j)
