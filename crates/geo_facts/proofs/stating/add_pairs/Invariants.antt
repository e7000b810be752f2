use Rattle.std.proofs.Common.{◌≡◌, ◌++◌, map, take}
use Rattle.geo_facts.specs.Pieces.{pair_of}
use Rattle.geo_facts.proofs.stating.add_pairs.Given as goal

abbrev pub invariant-loop-second : goal.invariant-loop-second
invariant-loop-second l = l.pairs.items ≡ l.fn.pairs.items ++ map (pair_of l.first) (take l.second-index l.later)
