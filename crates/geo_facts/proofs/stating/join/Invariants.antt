use Rattle.std.proofs.Common.{◌++◌, List, length}
use Rattle.network_words.specs.declared.fact.Fact.{Fact}
use Rattle.geo_facts.specs.Pieces.{AreJoined}
use Rattle.geo_facts.proofs.stating.join.Given as goal

abbrev pub invariant-loop-rest : goal.invariant-loop-rest
invariant-loop-rest l = (facts : List Fact) → AreJoined l.rest facts → AreJoined l.pieces (l.facts.items ++ facts)

abbrev pub decreases-loop-rest : goal.decreases-loop-rest
decreases-loop-rest l = length l.rest
