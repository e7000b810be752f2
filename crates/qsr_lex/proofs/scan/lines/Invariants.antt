use Rattle.std.proofs.Common.{◌≡◌, ◌+◌, ◌-◌, ◌≤◌, ◌++◌, length}
use Rattle.qsr_lex.specs.TextLines.{text_lines, bad_line, bad_line_from}
use Rattle.qsr_lex.specs.Tokens.{tokens_of, tokens_of_lines}
use Rattle.qsr_lex.proofs.scan.lines.Given as goal

abbrev pub invariant-loop-rest : goal.invariant-loop-rest
invariant-loop-rest l = record {
  told : l.tokens.items ++ tokens_of_lines (l.count + 1) (length l.bytes - length l.rest) (text_lines l.rest) ≡ tokens_of l.bytes;
  counted : l.count + length (text_lines l.rest) ≡ length (text_lines l.bytes);
  bad : bad_line_from (l.count + 1) (text_lines l.rest) ≡ bad_line l.bytes;
  room : l.count + length l.rest ≤ length l.bytes;
}

abbrev pub decreases-loop-rest : goal.decreases-loop-rest
decreases-loop-rest l = length l.rest
