use Rattle.line_files.proofs.FileTexts.{file_text-printed}
use Rattle.line_files.proofs.laws.printed_lines_are_read.Goals as goal

pub returns : goal.returns
returns c = file_text-printed
