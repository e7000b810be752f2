use Rattle.refutation.proofs.NoScenarios.{refuted-none}
use Rattle.refutation.proofs.Exact.{refutation-no_fault, fault-one}
use Rattle.refutation.proofs.Decided.{refutation_or_fault}
use Rattle.refutation.proofs.BareLeaves.{HasBareLeaves-swept}
use Rattle.refutation.proofs.laws.laws_of_refutations.Goals as goal

pub returns : goal.returns
returns c = record {
  refuted_has_no_scenario = refuted-none;
  refutation_has_no_fault = refutation-no_fault;
  tree_fault_is_one = fault-one;
  refutation_or_fault = refutation_or_fault;
  swept_leaves_are_bare = HasBareLeaves-swept;
}
