use Rattle.std.proofs.Common.{◌≡◌, ◌++◌, length}
use Rattle.geo_facts.specs.Pieces.{pairs_of}
use Rattle.geo_facts.proofs.stating.list_pairs.Given as goal

abbrev pub invariant-loop-rest : goal.invariant-loop-rest
invariant-loop-rest l = l.pairs.items ++ pairs_of l.rest ≡ pairs_of l.placed

abbrev pub decreases-loop-rest : goal.decreases-loop-rest
decreases-loop-rest l = length l.rest
