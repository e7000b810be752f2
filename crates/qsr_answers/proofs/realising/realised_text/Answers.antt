use Rattle.qsr_answers.proofs.realising.realised_text.Goals as goal

pub realise-requires-clause-scenario : goal.realise-requires-clause-scenario
realise-requires-clause-scenario c =
    rw c.nodes.ensures.value (c.laws_of_realisations.ensures.scenario_is_of_open c.args.net.now.nodes
    c.args.net.now.words c.args.scenario.now c.requires.scenario)
