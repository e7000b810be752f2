use Rattle.std.proofs.Common.{◌≡◌, map, length, ◌≤◌, true, All}
use Rattle.qsr_lex.specs.Names.{is_name}
use Rattle.qsr_lex.specs.LineTokens.{names_at, names_until_close}
use Rattle.qsr_lex.proofs.ReadNames.{after_names}
use Rattle.qsr_lex.proofs.reading.TokenReader.names.Given as goal

abbrev pub invariant-loop-self : goal.invariant-loop-self
invariant-loop-self l = record {
  told : after_names (map (λ name. name.now) l.names.items) (names_until_close l.self) ≡ names_at l.fn.self;
  few : length l.names.items ≤ l.most;
  each : All (λ name. is_name name.now ≡ true) l.names.items;
}

abbrev pub decreases-loop-self : goal.decreases-loop-self
decreases-loop-self l = length l.self
