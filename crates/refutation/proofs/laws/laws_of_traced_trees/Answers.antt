use Rattle.stepped_networks.proofs.RuledSteps.{ruled_steps, ruled-unique, ruled-closure}
use Rattle.refutation.proofs.TracedLaws.{traced-refutes_too, traced-no_sweep, traced-bare_leaves, traced-length}
use Rattle.refutation.proofs.laws.laws_of_traced_trees.Goals as goal

pub returns : goal.returns
returns c = record {
  ruled_steps_exist = ruled_steps;
  ruled_steps_are_one = ruled-unique;
  ruled_steps_lead_to_closure = ruled-closure;
  traced_tree_refutes = traced-refutes_too;
  traced_tree_has_no_sweep = traced-no_sweep;
  traced_tree_has_bare_leaves = traced-bare_leaves;
  traced_tree_has_as_many_nodes = traced-length;
}
