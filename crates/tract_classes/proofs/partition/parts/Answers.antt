use Rattle.std.proofs.Common.{◌≡◌, ◌≢◌, [], ◌∷◌, ◌++◌, ◌<◌, sym, ap, subst, ◌∙◌}
use Rattle.std.proofs.lemmas.List.{append_assoc, append-nil}
use Rattle.std.specs.Prelude.{bit_xor}
use Rattle.std.proofs.lemmas.Bool.{both_ways}
use Rattle.tract_classes.specs.Class.{HasBasesOf}
use Rattle.tract_classes.specs.Parts.{AreParts}
use Rattle.tract_classes.proofs.Leftovers.{left-less}
use Rattle.tract_classes.proofs.PartsOfSets.{largest_some, HasBasesOf-left}
use Rattle.tract_classes.proofs.partition.parts.Goals as goal

-- what is left
left : (c : goal.After-of-rest) → c.of-rest.result ≡ bit_xor c.loop-rest.rest c.largest_within-part.result
left c = c.of-rest.ensures ∙ ap (λ a. bit_xor a c.word-in-loop-rest.result) c.word.ensures ∙ ap (bit_xor c.loop-rest.rest) c.word-in-loop-rest.ensures

some : (c : goal.After-of-rest) → c.loop-rest.rest ≢ 0
some c e = both_ways c.is_empty.result c.loop-rest-test.true (c.is_empty.ensures.1 e)

pub loop-rest-smaller : goal.loop-rest-smaller
loop-rest-smaller c =
    let rest = c.loop-rest.rest in
    let part = c.largest_within-part.result in
    subst (λ x. x < rest) (sym (left c))
    (left-less rest part c.largest_within-part.ensures.within
    (largest_some c.args.class.now rest part c.loop-rest.invariant.bases (some c) c.largest_within-part.ensures))

pub loop-rest-preserved : goal.loop-rest-preserved
loop-rest-preserved c =
    let class = c.args.class.now in
    let rest = c.loop-rest.rest in
    let part = c.largest_within-part.result in
    let largest = c.largest_within-part.ensures in
    record {
      bases = subst (HasBasesOf class) (sym (left c)) (HasBasesOf-left class rest part c.loop-rest.invariant.bases largest.within);
      parts = λ others are.
          let rest_are : AreParts class (bit_xor rest part) others = subst (λ x. AreParts class x others) (left c) are in
          subst (AreParts class c.args.rel) (sym (ap (λ xs. xs ++ others) c.in-Ok.ensures.items ∙ append_assoc c.loop-rest.parts.items (part ∷ []) others))
          (c.loop-rest.invariant.parts (part ∷ others) (some c, largest, rest_are));
    }

pub returns : goal.returns
returns c =
    let none : c.loop-rest.rest ≡ 0 = c.is_empty.ensures.0 c.loop-rest-test.false in
    subst (AreParts c.args.class.now c.args.rel) (append-nil c.loop-rest.parts.items) (c.loop-rest.invariant.parts [] none)
