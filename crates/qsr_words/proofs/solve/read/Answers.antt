use Rattle.std.proofs.Common.{ap, sym, subst, ◌∙◌, map}
use Rattle.std.specs.Prelude.{Some, option_map}
use Rattle.std.specs.String.{string_bytes}
use Rattle.qsr_words.specs.Asked.{solve_app, solve_by}
use Rattle.qsr_words.specs.Found.{IsFoundIn}
use Rattle.qsr_words.specs.Values.{search_of}
use Rattle.qsr_words.proofs.FoundWords.{words_found}
use Rattle.qsr_words.proofs.solve.read.Goals as goal

pub returns-in_default-values_found-clause-asked : goal.returns-in_default-values_found-clause-asked
returns-in_default-values_found-clause-asked c =
    let found = subst (λ a. IsFoundIn a (map string_bytes c.args.words.now) c.in-Some.found) c.in-Ok.ensures (rw c.in-Some.is at c.in_ok-found.ensures) in
    ap (option_map search_of) (sym c.in_default-values_found.is) ∙ c.values_found.ensures.asked ∙ words_found solve_app solve_by (map string_bytes c.args.words.now) c.in-Some.found found

pub returns-in-Ok-request-clause-asked : goal.returns-in-Ok-request-clause-asked
returns-in-Ok-request-clause-asked c =
    let found = subst (λ a. IsFoundIn a (map string_bytes c.args.words.now) c.in-Some.found) c.in-Ok.ensures (rw c.in-Some.is at c.in_ok-found.ensures) in
    ap Some c.in-Ok-request.ensures ∙ ap (option_map search_of) (sym c.in-Some-values_found.is) ∙ c.values_found.ensures.asked
    ∙ words_found solve_app solve_by (map string_bytes c.args.words.now) c.in-Some.found found
