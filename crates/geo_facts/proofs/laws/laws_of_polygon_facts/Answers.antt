use Rattle.geo_facts.proofs.OneFacts.{rcc8-one, facts-one, AreFactsOf-within, fact_fault-one, nodes-no_fault}
use Rattle.geo_facts.proofs.laws.laws_of_polygon_facts.Goals as goal

pub returns-clause-relation : goal.returns-clause-relation
returns-clause-relation c = rcc8-one

pub returns-clause-one : goal.returns-clause-one
returns-clause-one c = facts-one

pub returns-clause-proper : goal.returns-clause-proper
returns-clause-proper c = AreFactsOf-within

pub returns-clause-fault : goal.returns-clause-fault
returns-clause-fault c = fact_fault-one

pub returns-clause-none : goal.returns-clause-none
returns-clause-none c = nodes-no_fault
