use Rattle.network_file.proofs.ReadAgain.{file_has_one_fault, file_has_no_fault}
use Rattle.network_file.proofs.Answered.{file-answered}
use Rattle.network_file.proofs.laws.file_has_one_answer.Goals as goal

pub returns-clause-one : goal.returns-clause-one
returns-clause-one c = file_has_one_fault

pub returns-clause-none : goal.returns-clause-none
returns-clause-none c = file_has_no_fault

pub returns-clause-some : goal.returns-clause-some
returns-clause-some c = file-answered
