use Rattle.qsr_inputs.proofs.PlacedNetworks.{placed_is_network}
use Rattle.qsr_inputs.proofs.placing.place.Goals as goal

pub returns-in-Ok-add_facts-clause-network : goal.returns-in-Ok-add_facts-clause-network
returns-in-Ok-add_facts-clause-network g c =
    placed_is_network c.args.calculus.now.algebra c.args.net c.add_facts.new.self c.deref-2.result.now c.requires.network c.in-Ok-add_facts.ensures.ok
