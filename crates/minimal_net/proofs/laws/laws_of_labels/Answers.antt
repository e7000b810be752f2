use Rattle.minimal_net.proofs.Labels.{label_one, label_exists, label_true, seen_held}
use Rattle.minimal_net.proofs.Closures.{same_verdict, closure_set_to, label_of_closure}
use Rattle.minimal_net.proofs.Labelled.{labelled_keeps, labelled_minimal}
use Rattle.minimal_net.proofs.laws.laws_of_labels.Goals as goal

pub returns-clause-label_is_one : goal.returns-clause-label_is_one
returns-clause-label_is_one c = label_one

pub returns-clause-label_exists : goal.returns-clause-label_exists
returns-clause-label_exists c = label_exists

pub returns-clause-label_is_true : goal.returns-clause-label_is_true
returns-clause-label_is_true c = label_true

pub returns-clause-same_closure_same_verdict : goal.returns-clause-same_closure_same_verdict
returns-clause-same_closure_same_verdict c = same_verdict

pub returns-clause-closure_set_to : goal.returns-clause-closure_set_to
returns-clause-closure_set_to c = closure_set_to

pub returns-clause-seen_is_held : goal.returns-clause-seen_is_held
returns-clause-seen_is_held c = seen_held

pub returns-clause-labelled_keeps_scenarios : goal.returns-clause-labelled_keeps_scenarios
returns-clause-labelled_keeps_scenarios c = labelled_keeps

pub returns-clause-labelled_is_minimal : goal.returns-clause-labelled_is_minimal
returns-clause-labelled_is_minimal c = labelled_minimal

pub returns-clause-label_of_closure : goal.returns-clause-label_of_closure
returns-clause-label_of_closure c = label_of_closure
