use Rattle.std.proofs.Common.{◌≡◌, ◌++◌, ◌∷◌, [], None, Some, rules, ◌∙◌, ap, sym, refl}
use Rattle.qsr_lex.specs.LineTokens.{after_kind, name_at}
use Rattle.qsr_lex.specs.declared.tokens.TokenKind.TheVariants.{Close}
use Rattle.qsr_lex.proofs.ReadNames.{names-step}
use Rattle.named_sets.proofs.reading.unknown_set.Goals as goal

pub loop-tokens-preserved : goal.loop-tokens-preserved
loop-tokens-preserved c =
    let line = c.loop-tokens.tokens in
    let front = c.loop-tokens.invariant.0 in
    let name = c.in-Some.field-0.now in
    let no_close : (after_kind Close line ≡ None) × (c.take_kind.new.self ≡ line) = search rules in
    let named : name_at line ≡ Some (name, c.name.new.self) = ap name_at (sym no_close.1) ∙ c.in-Some.ensures.found in
    (front ++ name ∷ [], names-step front (front ++ name ∷ []) name line c.name.new.self _ c.loop-tokens.invariant.1 no_close.0 named refl)
