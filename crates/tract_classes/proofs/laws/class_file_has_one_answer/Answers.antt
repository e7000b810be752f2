use Rattle.tract_classes.proofs.ClassAnswers.{class_fault_one, closed_class_none, class_file_answer}
use Rattle.tract_classes.proofs.laws.class_file_has_one_answer.Goals as goal

pub returns-clause-one : goal.returns-clause-one
returns-clause-one c = class_fault_one

pub returns-clause-none : goal.returns-clause-none
returns-clause-none c = closed_class_none

pub returns-clause-answer : goal.returns-clause-answer
returns-clause-answer c = class_file_answer
