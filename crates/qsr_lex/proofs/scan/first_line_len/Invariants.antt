use Rattle.std.proofs.Common.{◌≡◌, ◌+◌, drop}
use Rattle.qsr_lex.specs.TextLines.{first_line_len}
use Rattle.qsr_lex.proofs.scan.first_line_len.Given as goal

abbrev pub invariant-loop-index : goal.invariant-loop-index
invariant-loop-index l = l.index + first_line_len (drop l.index l.text) ≡ first_line_len l.text
