use Rattle.geo_facts.proofs.OneAnswer.{file-one, file_fault-one, file-no_fault}
use Rattle.geo_facts.proofs.SomeAnswer.{file-answer}
use Rattle.geo_facts.proofs.laws.polygon_file_has_one_answer.Goals as goal

pub returns-clause-one : goal.returns-clause-one
returns-clause-one c = file-one

pub returns-clause-fault : goal.returns-clause-fault
returns-clause-fault c = file_fault-one

pub returns-clause-none : goal.returns-clause-none
returns-clause-none c = file-no_fault

pub returns-clause-answer : goal.returns-clause-answer
returns-clause-answer c = file-answer
