use Rattle.std.proofs.Common.{◌≡◌, ℕ, List, sym, ap, ◌∙◌, subst}
use Rattle.std.specs.Prelude.{IfOk, map}
use Rattle.std.specs.String.{string_bytes}
use Rattle.qsr_words.specs.Asked.{command_by}
use Rattle.qsr_words.specs.Requests.{asked_of}
use Rattle.qsr_words.proofs.CommandWords.{strange_asks_nothing, command_asks}
use Rattle.qsr_words.proofs.reading.read.Goals as goal

pub returns-then-has_strange-clause-asked : goal.returns-then-has_strange-clause-asked
returns-then-has_strange-clause-asked c = strange_asks_nothing c.args.words.now (sym c.has_strange.ensures ∙ c.if-has_strange.true)

pub returns-in-len1-up-clause-asked : goal.returns-in-len1-up-clause-asked
returns-in-len1-up-clause-asked c =
    let words : List (List ℕ) = map string_bytes c.args.words.now in
    let first = command_asks c.args.words.now c.name-item.result (sym c.has_strange.ensures ∙ c.if-has_strange.false) c.in-len1-up.len_at_least c.name-item.is in
    subst (λ a. IfOk c.request_by.result (λ request. asked_of request ≡ a)) (ap (λ n. command_by n words) c.as_str.ensures.value ∙ first) c.request_by.ensures.asked
