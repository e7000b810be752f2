use Rattle.qsr_lex.proofs.PrintedText.{IsReadAgain-from_tokens}
use Rattle.qsr_lex.proofs.laws.printed_text_is_read.Goals as goal

pub returns : goal.returns
returns c = λ x h. IsReadAgain-from_tokens x h
