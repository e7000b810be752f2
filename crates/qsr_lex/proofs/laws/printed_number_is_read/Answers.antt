use Rattle.qsr_lex.proofs.PrintedNumbers.{IsPrintedNumber-below}
use Rattle.qsr_lex.proofs.laws.printed_number_is_read.Goals as goal

pub returns : goal.returns
returns c = λ x h. IsPrintedNumber-below x h
