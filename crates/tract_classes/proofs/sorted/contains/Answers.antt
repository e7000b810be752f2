use Rattle.std.proofs.Common.{subst, sym}
use Rattle.std.specs.Prelude.{IsTrue, ◌↔◌, Contains}
use Rattle.tract_classes.proofs.ClassRows.{by_halves}
use Rattle.tract_classes.proofs.sorted.contains.Goals as goal

pub returns : goal.returns
returns c =
    let xs = c.args.sets.now in
    let a = c.args.word in
    subst (λ b. IsTrue b ↔ Contains xs a) (sym c.is_ok.ensures.value)
    (by_halves xs a c.binary_search.result c.requires c.binary_search.ensures.position)
