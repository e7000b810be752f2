use Rattle.std.proofs.Common.{◌≡◌, ◌++◌, ◌∷◌, [], None, Some, map, rules, ◌∙◌, ap, sym, subst, refl, true, All, length, arith, length-append}
use Rattle.std.proofs.lemmas.List.{map_push, length-map}
use Rattle.std.proofs.lemmas.List.Elements.{All-push}
use Rattle.qsr_lex.specs.Names.{is_name}
use Rattle.qsr_lex.specs.LineTokens.{after_kind, name_at, names_at}
use Rattle.qsr_lex.specs.declared.tokens.TokenKind.TheVariants.{Close}
use Rattle.qsr_lex.specs.declared.reading.NamesFault.TheVariants.{Form, TooMany}
use Rattle.qsr_lex.proofs.ReadNames.{after_names, names-step, names-many}
use Rattle.qsr_lex.proofs.reading.TokenReader.names.Goals as goal

pub loop-self-preserved : goal.loop-self-preserved
loop-self-preserved c =
    let line = c.loop-self.self in
    let front = map (λ name. name.now) c.loop-self.names.items in
    let no_close : (after_kind Close line ≡ None) × (c.take_kind-in-loop-self.new.self ≡ line) = search rules in
    let named : name_at line ≡ Some (c.in-Some.name.now, c.name.new.self) = ap name_at (sym no_close.1) ∙ c.in-Some.ensures.found in
    let pushed : c.push.new.self.items ≡ c.loop-self.names.items ++ c.in-Some.name ∷ [] = search rules in
    record {
      told = names-step front (map (λ name. name.now) c.push.new.self.items) c.in-Some.name.now line c.name.new.self (names_at c.args.self.now)
          c.loop-self.invariant.told no_close.0 named (ap (map (λ name. name.now)) pushed ∙ map_push (λ name. name.now) c.loop-self.names.items c.in-Some.name);
      few = omega (arith, ap length pushed, length-append c.loop-self.names.items (c.in-Some.name ∷ []));
      each = subst (λ names. All (λ name. is_name name.now ≡ true) names) (sym pushed)
          (All-push (λ name. is_name name.now ≡ true) c.loop-self.names.items c.in-Some.name c.loop-self.invariant.each c.in-Some.ensures.is_name);
    }

pub returns-then-len-most-clause-form : goal.returns-then-len-most-clause-form
returns-then-len-most-clause-form c =
    let line = c.loop-self.self in
    let front = map (λ name. name.now) c.loop-self.names.items in
    let name = c.in-Some.name.now in
    let no_close : (after_kind Close line ≡ None) × (c.take_kind-in-loop-self.new.self ≡ line) = search rules in
    let named : name_at line ≡ Some (name, c.name.new.self) = ap name_at (sym no_close.1) ∙ c.in-Some.ensures.found in
    let told = names-step front (front ++ name ∷ []) name line c.name.new.self (names_at c.args.self.now) c.loop-self.invariant.told no_close.0 named refl in
    λ is. (let same : c.more_names.result ≡ Form = cc in sym told ∙ ap (after_names (front ++ name ∷ [])) (c.more_names.ensures.form same))

pub returns-then-len-most-clause-many : goal.returns-then-len-most-clause-many
returns-then-len-most-clause-many c =
    let line = c.loop-self.self in
    let items = c.loop-self.names.items in
    let front = map (λ name. name.now) items in
    let name = c.in-Some.name.now in
    let no_close : (after_kind Close line ≡ None) × (c.take_kind-in-loop-self.new.self ≡ line) = search rules in
    let named : name_at line ≡ Some (name, c.name.new.self) = ap name_at (sym no_close.1) ∙ c.in-Some.ensures.found in
    let told = names-step front (front ++ name ∷ []) name line c.name.new.self (names_at c.args.self.now) c.loop-self.invariant.told no_close.0 named refl in
    let full : length front ≡ c.args.most = length-map items (λ name. name.now) ∙ omega arith in
    λ is.
    (let same : c.more_names.result ≡ TooMany = cc in
    names-many c.args.most front name c.args.self.now c.name.new.self c.more_names.new.self full told (c.more_names.ensures.many same))
