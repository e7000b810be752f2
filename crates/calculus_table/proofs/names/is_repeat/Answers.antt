use Rattle.std.proofs.Common.{Some, refl, below_more, ◌∙◌, sym, ap, arith}
use Rattle.std.specs.String.{string_bytes}
use Rattle.std.proofs.lemmas.List.{length-map}
use Rattle.calculus_table.proofs.PlacesOfNames.{name_read, equal_names, other_names}
use Rattle.calculus_table.proofs.names.is_repeat.Goals as goal

pub returns-then-eq : goal.returns-then-eq
returns-then-eq c =
    let here = name_read c.args.names.now c.args.k c.index-names-k.result (omega arith) c.index-names-k.is in
    let there = name_read c.args.names.now c.loop-j.j c.index-names-j.result (omega arith) c.index-names-j.is in
    let same = equal_names (string_bytes c.index-names-j.result) (string_bytes c.index-names-k.result) c.eq.result c.eq.ensures c.if-eq.true in
    (λ _. record { below = omega (arith, length-map c.args.names.now string_bytes); earlier = c.loop-j.j; is_earlier = c.loop-j-test.true; same = there ∙ ap Some same ∙ sym here }, λ _. refl)

pub loop-j-preserved : goal.loop-j-preserved
loop-j-preserved c =
    let here = name_read c.args.names.now c.args.k c.index-names-k.result (omega arith) c.index-names-k.is in
    let there = name_read c.args.names.now c.loop-j.j c.index-names-j.result (omega arith) c.index-names-j.is in
    below_more _ _ c.loop-j.invariant (λ same.
    other_names (string_bytes c.index-names-j.result) (string_bytes c.index-names-k.result) c.eq.result c.eq.ensures c.if-eq.false cc)
