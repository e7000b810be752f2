use Rattle.qsr_lex.proofs.PrintedNames.{IsPrintedSet-from_tests}
use Rattle.qsr_lex.proofs.laws.printed_set_is_read.Goals as goal

pub returns : goal.returns
returns c = λ names rest h. IsPrintedSet-from_tests names rest h
