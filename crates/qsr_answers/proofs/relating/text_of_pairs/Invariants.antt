use Rattle.std.proofs.Common.{map, length}
use Rattle.std.specs.String.{string_bytes}
use Rattle.geo_facts.specs.PolygonFile.{named_ring}
use Rattle.geo_facts.specs.Facts.{ring_pairs}
use Rattle.qsr_answers.proofs.PairTexts.{Completes}
use Rattle.qsr_answers.proofs.relating.text_of_pairs.Given as goal

abbrev pub invariant-loop-rest : goal.invariant-loop-rest
invariant-loop-rest l = Completes l.pattern (ring_pairs (map named_ring l.polygons)) (string_bytes l.text) (map named_ring l.rest)

abbrev pub decreases-loop-rest : goal.decreases-loop-rest
decreases-loop-rest l = length l.rest
