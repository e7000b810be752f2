use Rattle.std.proofs.Common.{subst}
use Rattle.refutation.specs.TreeFault.{AreFormed}
use Rattle.refutation.proofs.checking.check.Goals as goal

pub check_networks-requires-clause-formed : goal.check_networks-requires-clause-formed
check_networks-requires-clause-formed g c = subst (λ n. AreFormed n c.as_slice-nodes.result.now) c.nodes.ensures.value c.in_ok-check_forms.ensures
