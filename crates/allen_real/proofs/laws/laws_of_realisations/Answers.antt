use Rattle.allen_real.proofs.Composed.{scenario-open}
use Rattle.allen_real.proofs.Realised.{scenario-realised}
use Rattle.allen_real.proofs.Uniqueness.{ranks-one, realised-scenario}
use Rattle.allen_real.proofs.Counted.{ranks-no_gap}
use Rattle.allen_real.proofs.laws.laws_of_realisations.Goals as goal

pub returns-clause-scenario_is_of_open : goal.returns-clause-scenario_is_of_open
returns-clause-scenario_is_of_open c = scenario-open

pub returns-clause-scenario_is_realised : goal.returns-clause-scenario_is_realised
returns-clause-scenario_is_realised c = scenario-realised

pub returns-clause-ranks_are_one : goal.returns-clause-ranks_are_one
returns-clause-ranks_are_one c = ranks-one

pub returns-clause-realised_is_scenario : goal.returns-clause-realised_is_scenario
returns-clause-realised_is_scenario c = realised-scenario

pub returns-clause-ranks_leave_no_gap : goal.returns-clause-ranks_leave_no_gap
returns-clause-ranks_leave_no_gap c = ranks-no_gap
