use Rattle.std.proofs.Common.{take}
use Rattle.std.specs.List.{AllZip}
use Rattle.geo_facts.specs.Pieces.{IsPairFact}
use Rattle.geo_facts.proofs.stating.facts_of.Given as goal

abbrev pub invariant-loop-pair : goal.invariant-loop-pair
invariant-loop-pair l = AllZip IsPairFact (take l.pair-index l.pairs) l.facts.items
