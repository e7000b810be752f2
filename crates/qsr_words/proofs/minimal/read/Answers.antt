use Rattle.std.proofs.Common.{◌≡◌, subst, map}
use Rattle.std.specs.Prelude.{IfOk, option_map}
use Rattle.std.specs.String.{string_bytes}
use Rattle.qsr_words.specs.Asked.{minimal_app, minimal_by}
use Rattle.qsr_words.specs.Found.{IsFoundIn}
use Rattle.qsr_words.specs.Requests.{minimal_of}
use Rattle.qsr_words.proofs.FoundWords.{words_found}
use Rattle.qsr_words.proofs.minimal.read.Goals as goal

pub returns-in-Some-clause-asked : goal.returns-in-Some-clause-asked
returns-in-Some-clause-asked c =
    let found = subst (λ a. IsFoundIn a (map string_bytes c.args.words.now) c.in-Some.found) c.in-Ok.ensures
    (rw c.in-Some.is at c.in_ok-found.ensures) in
    subst (λ a. IfOk c.request.result (λ minimal. option_map minimal_of minimal ≡ a))
    (words_found minimal_app minimal_by (map string_bytes c.args.words.now) c.in-Some.found found)
    c.request.ensures.asked
