use Rattle.geo_facts.proofs.Patterns.{one_pattern-fits}
use Rattle.geo_facts.proofs.laws.matrix_has_one_relation.Goals as goal

pub returns : goal.returns
returns c = one_pattern-fits
