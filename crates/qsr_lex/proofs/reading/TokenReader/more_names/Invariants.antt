use Rattle.std.proofs.Common.{◌≡◌, List, ℕ, length}
use Rattle.qsr_lex.specs.LineTokens.{names_until_close}
use Rattle.qsr_lex.proofs.ReadNames.{after_names}
use Rattle.qsr_lex.proofs.reading.TokenReader.more_names.Given as goal

abbrev pub invariant-loop-self : goal.invariant-loop-self
invariant-loop-self l = (front : List (List ℕ)) × (after_names front (names_until_close l.self) ≡ names_until_close l.fn.self)

abbrev pub decreases-loop-self : goal.decreases-loop-self
decreases-loop-self l = length l.self
