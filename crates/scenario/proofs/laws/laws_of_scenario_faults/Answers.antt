use Rattle.scenario.proofs.Faults.{fault-one, no-fault}
use Rattle.scenario.proofs.FirstFaults.{scenario_or_fault}
use Rattle.scenario.proofs.laws.laws_of_scenario_faults.Goals as goal

pub returns : goal.returns
returns c = record {
  scenario_fault_is_one = fault-one;
  scenario_has_no_fault = no-fault;
  scenario_or_fault = scenario_or_fault;
}
