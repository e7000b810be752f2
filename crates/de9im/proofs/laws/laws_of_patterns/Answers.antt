use Rattle.de9im.proofs.PatternLaws.{pattern-asks, wrong_place-one, pattern-not_wrong}
use Rattle.de9im.proofs.laws.laws_of_patterns.Goals as goal

pub returns-clause-asks : goal.returns-clause-asks
returns-clause-asks c = pattern-asks

pub returns-clause-place : goal.returns-clause-place
returns-clause-place c = wrong_place-one

pub returns-clause-none : goal.returns-clause-none
returns-clause-none c = pattern-not_wrong
