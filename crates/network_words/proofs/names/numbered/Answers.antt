use Rattle.std.proofs.Common.{◌≡◌, ◌++◌, ◌∷◌, [], false, true, length, map, sym, ap, subst, ◌∙◌, append_assoc, arith, if◌then◌else◌}
use Rattle.std.specs.String.{string_bytes}
use Rattle.std.specs.Vec.Iter.{into_iter_items}
use Rattle.std.proofs.lemmas.Bool.{not-true, not-false}
use Rattle.calculus_table.specs.Calculus.{AreDistinct, IsFirstRepeat}
use Rattle.network_words.proofs.NumberedNames.{is_among, distinct-push, first_repeat-push}
use Rattle.network_words.proofs.names.numbered.Goals as goal

pub loop-name-preserved : goal.loop-name-preserved
loop-name-preserved c =
    let was = c.loop-name.invariant in
    let done = c.loop-name.numbered.keys in
    let name = c.in-Some.name in
    let steps : into_iter_items c.loop-name.name-iterator ≡ name ∷ into_iter_items c.next.new.self = c.in-Some.ensures.steps.0 in
    let new : is_among (string_bytes name) done ≡ false = not-true _ (sym c.in-Ok-true.ensures.added ∙ c.in-Ok-true.field-0-test) in
    let pushed : c.insert.new.self.keys ≡ done ++ name ∷ [] = c.in-Ok-true.ensures.keys ∙ ap (λ b. if b then done else done ++ name ∷ []) new in
    record {
      whole = ap (λ keys. keys ++ into_iter_items c.next.new.self) pushed ∙ append_assoc done (name ∷ []) _ ∙ ap (λ rest. done ++ rest) (sym steps) ∙ was.whole;
      left = (let gone = c.in-Some.ensures.steps.1 in
          let short = ap length steps in
          let before = was.left in
          omega arith);
      distinct = subst (λ keys. AreDistinct (map string_bytes keys)) (sym pushed) (distinct-push done name was.distinct new);
    }

pub returns-in-Ok-false-clause-fault : goal.returns-in-Ok-false-clause-fault
returns-in-Ok-false-clause-fault c =
    let was = c.loop-name.invariant in
    let done = c.loop-name.numbered.keys in
    let name = c.in-Some.name in
    let rest = into_iter_items c.next.new.self in
    let steps : into_iter_items c.loop-name.name-iterator ≡ name ∷ rest = c.in-Some.ensures.steps.0 in
    let old : is_among (string_bytes name) done ≡ true = not-false _ (sym c.in-Ok-false.ensures.added ∙ c.in-Ok-false.field-0-test) in
    let whole : done ++ name ∷ rest ≡ c.args.names.items = ap (λ xs. done ++ xs) (sym steps) ∙ was.whole in
    subst (λ at. IsFirstRepeat (map string_bytes c.args.names.items) at) (sym c.len-at.ensures.len)
    (subst (λ names. IsFirstRepeat (map string_bytes names) (length done)) whole (first_repeat-push done rest name was.distinct old))
