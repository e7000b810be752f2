use Rattle.std.proofs.Common.{◌≡◌, ◌+◌, ◌≤◌, length}
use Rattle.qsr_lex.specs.TextLines.{text_lines}
use Rattle.qsr_lex.specs.declared.TheConstants.{MAX_TEXT}
use Rattle.line_files.specs.FileText.{file_text_from}
use Rattle.line_files.proofs.lines.FileLines.end.Given as goal

abbrev pub invariant-loop-text : goal.invariant-loop-text
invariant-loop-text l = record {
  same : (file_text_from l.count (text_lines l.text)).end ≡ l.self.end;
  room : l.count + length l.text ≤ MAX_TEXT;
}

abbrev pub decreases-loop-text : goal.decreases-loop-text
decreases-loop-text l = length l.text
