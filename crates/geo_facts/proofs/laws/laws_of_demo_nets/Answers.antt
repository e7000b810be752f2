use Rattle.geo_facts.proofs.OneDemo.{demo-one, demo-network}
use Rattle.geo_facts.proofs.laws.laws_of_demo_nets.Goals as goal

pub returns-clause-one : goal.returns-clause-one
returns-clause-one c = demo-one

pub returns-clause-network : goal.returns-clause-network
returns-clause-network c = demo-network
