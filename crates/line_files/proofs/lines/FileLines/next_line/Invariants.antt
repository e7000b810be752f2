use Rattle.std.proofs.Common.{◌≡◌, ◌+◌, ◌≤◌, length}
use Rattle.qsr_lex.specs.TextLines.{text_lines}
use Rattle.qsr_lex.specs.declared.TheConstants.{MAX_TEXT}
use Rattle.line_files.specs.FileText.{file_text_from}
use Rattle.line_files.proofs.lines.FileLines.next_line.Given as goal

abbrev pub invariant-loop-self : goal.invariant-loop-self
invariant-loop-self l = record {
  same : file_text_from l.self-inside.count (text_lines l.self-inside.text.now) ≡ l.fn.self;
  room : l.self-inside.count + length l.self-inside.text.now ≤ MAX_TEXT;
}

abbrev pub decreases-loop-self : goal.decreases-loop-self
decreases-loop-self l = length l.self-inside.text.now
