use Rattle.geo_sound.proofs.Rules.{table_of_rules}
use Rattle.geo_sound.proofs.Triples.{rings_compose}
use Rattle.geo_sound.proofs.Rectangles.{demo-region}
use Rattle.geo_sound.proofs.Demos.{demo-can_hold}
use Rattle.geo_sound.proofs.PlacedFacts.{facts-can_hold}
use Rattle.geo_sound.proofs.laws.laws_of_drawings.Goals as goal

pub returns-clause-rules : goal.returns-clause-rules
returns-clause-rules c = table_of_rules

pub returns-clause-rings : goal.returns-clause-rings
returns-clause-rings c = rings_compose

pub returns-clause-rectangles : goal.returns-clause-rectangles
returns-clause-rectangles c = demo-region

pub returns-clause-demo : goal.returns-clause-demo
returns-clause-demo c = demo-can_hold

pub returns-clause-facts : goal.returns-clause-facts
returns-clause-facts c = facts-can_hold
