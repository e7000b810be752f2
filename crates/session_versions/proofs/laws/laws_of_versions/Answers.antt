use Rattle.session_versions.proofs.Closures.{closure_goes_on, facts_have_one_closure}
use Rattle.session_versions.proofs.laws.laws_of_versions.Goals as goal

pub returns-clause-closure_goes_on : goal.returns-clause-closure_goes_on
returns-clause-closure_goes_on c = closure_goes_on

pub returns-clause-facts_have_one_closure : goal.returns-clause-facts_have_one_closure
returns-clause-facts_have_one_closure c = facts_have_one_closure
