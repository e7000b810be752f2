use Rattle.qsr_lex.proofs.PrintedNames.{IsPrintedName-from_test}
use Rattle.qsr_lex.proofs.laws.printed_name_is_read.Goals as goal

pub returns : goal.returns
returns c = λ x h. IsPrintedName-from_test x h
