use Rattle.std.proofs.Common.{◌≡◌, ◌∷◌, ◌-◌, ◌^◌, ◌<◌, Some, None, IfSome, cond, length, bit_or, ap, sym, ◌∙◌, subst}
use Rattle.qsr_lex.specs.Names.{is_name}
use Rattle.qsr_lex.specs.Lexemes.{lexeme_with}
use Rattle.qsr_lex.specs.declared.tokens.TokenKind.TheVariants.{Word}
use Rattle.calculus_table.specs.Names.{place_of}
use Rattle.calculus_table.specs.Rel.{IsWithin}
use Rattle.named_sets.proofs.ReadSets.{named-parts, with_members-word, set-within}
use Rattle.named_sets.proofs.reading.read_set.Goals as goal

pub loop-token-preserved : goal.loop-token-preserved
loop-token-preserved c =
    let bases = c.args.bases.now in
    let word = c.in-Some.token.text.now in
    let base = c.in_ok-r-in-Word.field-0 in
    let r = c.in-Some-2.r in
    let set = c.loop-token.set in
    let cut : c.loop-token.tokens ≡ lexeme_with Word word ∷ c.next.new.self = c.in-Some.ensures ∙ ap (λ k. lexeme_with k word ∷ c.next.new.self) c.in-Word.is in
    let found : Some base ≡ cond (is_name word) (Some (place_of word bases)) None = c.in_ok-r-in-Word.ensures.value in
    let parts = named-parts (is_name word) base (place_of word bases) found in
    let known : base ≡ Some r = c.in-Some-2.is in
    let below : r < length bases = subst (λ b. IfSome b (λ r. r < length bases)) known c.in_ok-r-in-Word.ensures.below in
    let more : c.union-set.result ≡ bit_or set (2 ^ r) = c.union-set.ensures ∙ ap (bit_or set) c.single.ensures in
    record {
      told = with_members-word bases (Some set) (Some r) (Some c.union-set.result) word c.loop-token.tokens c.next.new.self cut parts.0 (sym known ∙ parts.1) (ap Some more) ∙ c.loop-token.invariant.told;
      within = subst (λ a. IsWithin a (2 ^ length bases - 1)) (sym more) (set-within (length bases) set r c.loop-token.invariant.within below);
    }
