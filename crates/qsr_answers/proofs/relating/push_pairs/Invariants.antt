use Rattle.std.proofs.Common.{map, take}
use Rattle.std.specs.String.{string_bytes}
use Rattle.geo_facts.specs.PolygonFile.{named_ring}
use Rattle.geo_facts.specs.Facts.{ring_pair}
use Rattle.qsr_answers.specs.Relations.{IsTextOfPairs, IsGrownBy}
use Rattle.qsr_answers.proofs.relating.push_pairs.Given as goal

abbrev pub invariant-loop-second : goal.invariant-loop-second
invariant-loop-second l =
    IsGrownBy (string_bytes l.initial.text) (string_bytes l.text)
    (IsTextOfPairs l.pattern (map (ring_pair (named_ring l.first)) (map named_ring (take l.second-index l.later))))
