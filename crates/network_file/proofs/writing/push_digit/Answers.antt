use Rattle.std.proofs.Common.{◌≡◌, ◌+◌, [], ◌∷◌, ◌++◌, ap, sym, ◌∙◌, arith, rules}
use Rattle.std.specs.String.{string_bytes}
use Rattle.std.proofs.lemmas.Fmt.{decimal_digit}
use Rattle.network_file.proofs.writing.push_digit.Goals as goal

pub returns : goal.returns
returns c =
    let digit : c.from.result ≡ 48 + c.args.number = search rules in
    let written : string_bytes c.push.new.self ≡ string_bytes c.args.text.now ++ c.from.result ∷ [] = search rules in
    written ∙ ap (λ x. string_bytes c.args.text.now ++ x ∷ []) digit ∙ ap (λ x. string_bytes c.args.text.now ++ x) (sym (decimal_digit c.args.number (omega arith)))
