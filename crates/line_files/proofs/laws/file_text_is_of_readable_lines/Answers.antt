use Rattle.line_files.proofs.FileTexts.{file_text-readable}
use Rattle.line_files.proofs.laws.file_text_is_of_readable_lines.Goals as goal

pub returns : goal.returns
returns c = file_text-readable
