use Rattle.std.proofs.Common.{◌≡◌, true, Some, None, cond, is_some, sym, ap, ◌∙◌, rules}
use Rattle.std.specs.List.{list_all}
use Rattle.qsr_lex.specs.Names.{is_name}
use Rattle.calculus_table.specs.Names.{place_of}
use Rattle.named_sets.proofs.ReadSets.{is_name-among}
use Rattle.named_sets.proofs.base_names.BaseNames.base_of.Goals as goal

pub returns-clause-value : goal.returns-clause-value
returns-clause-value c =
    let word = c.args.word.now in
    let bases = c.args.self.now in
    let place : place_of word bases ≡ Some c.in-Some.r = c.in-Some.ensures.value in
    let flag : c.self.inside.are_names ≡ true = search rules in
    let names : list_all is_name bases ≡ true = ap (list_all is_name) (sym c.self.view_is) ∙ c.self.invariant.names flag in
    let name : is_name word ≡ true = is_name-among bases word names (ap is_some place) in
    ap Some (sym place) ∙ sym (ap (λ b. cond b (Some (place_of word bases)) None) name)
