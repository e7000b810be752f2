use Rattle.minimal_net.proofs.NetworkLabels.{labels_one, labels_exist, labels_of_closure, labels_leave, labels_minimal}
use Rattle.minimal_net.proofs.laws.laws_of_network_labels.Goals as goal

pub returns-clause-labels_are_one : goal.returns-clause-labels_are_one
returns-clause-labels_are_one c = labels_one

pub returns-clause-labels_exist : goal.returns-clause-labels_exist
returns-clause-labels_exist c = labels_exist

pub returns-clause-labels_of_closure : goal.returns-clause-labels_of_closure
returns-clause-labels_of_closure c = labels_of_closure

pub returns-clause-labels_leave : goal.returns-clause-labels_leave
returns-clause-labels_leave c = labels_leave

pub returns-clause-labels_are_minimal : goal.returns-clause-labels_are_minimal
returns-clause-labels_are_minimal c = labels_minimal
