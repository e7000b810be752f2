use Rattle.std.proofs.Common.{◌≡◌, ◌+◌, ◌≤◌, ◌++◌, length}
use Rattle.qsr_lex.specs.Tokens.{tokens_after}
use Rattle.qsr_lex.proofs.scan.add_tokens.Given as goal

abbrev pub invariant-loop-rest : goal.invariant-loop-rest
invariant-loop-rest l = record {
  told : l.tokens.items ++ tokens_after l.line l.start 0 l.rest ≡ l.fn.tokens.items ++ tokens_after l.line l.fn.start 0 l.fn.part;
  room : l.start + length l.rest ≤ 16777216;
}

abbrev pub decreases-loop-rest : goal.decreases-loop-rest
decreases-loop-rest l = length l.rest
