use Rattle.std.proofs.Common.{◌≡◌, List, ℕ, length}
use Rattle.qsr_lex.specs.LineTokens.{names_until_close}
use Rattle.qsr_lex.proofs.ReadNames.{after_names}
use Rattle.named_sets.proofs.reading.unknown_set.Given as goal

abbrev pub invariant-loop-tokens : goal.invariant-loop-tokens
invariant-loop-tokens l = (front : List (List ℕ)) × (after_names front (names_until_close l.tokens) ≡ names_until_close l.fn.tokens)

abbrev pub decreases-loop-tokens : goal.decreases-loop-tokens
decreases-loop-tokens l = length l.tokens
