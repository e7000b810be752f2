use Rattle.std.proofs.Common.{◌≡◌, ◌≢◌, ℕ, List, map, slice_get, Some, subst}
use Rattle.std.specs.Prelude.{MatchOption}
use Rattle.std.specs.String.{string_bytes}
use Rattle.network_words.proofs.NumberedNames.{looked_up, name-spelled}
use Rattle.network_words.proofs.names.number_of.Goals as goal

pub returns-in-Ok : goal.returns-in-Ok
returns-in-Ok c =
    let texts = map string_bytes c.args.names.now.keys in
    subst (λ (text : List ℕ). MatchOption c.get_index_of.result ((k : ℕ) → slice_get texts k ≢ Some text) (λ k. slice_get texts k ≡ Some text)) c.in-Ok.ensures.cases.0
    (looked_up c.in-Ok.text.now c.args.names.now.keys c.get_index_of.result c.get_index_of.ensures.index c.get_index_of.ensures.found)

pub returns-in-Err : goal.returns-in-Err
returns-in-Err c = λ k there. c.in-Err.ensures.cases.0 (name-spelled c.args.name.now c.args.names.now.keys k there)
