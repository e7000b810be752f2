use Rattle.std.proofs.Common.{◌≡◌, ◌^◌, ap, ◌∙◌}
use Rattle.calculus_table.specs.Algebra.{Algebra}
use Rattle.calculus_table.specs.Composition.{composition}
use Rattle.calculus_table.proofs.Singles.{composition-single}
use Rattle.tract_classes.proofs.straight.compose_bases.Goals as goal

pub returns : goal.returns
returns g c =
    let m : Algebra = g.C.Compose.algebra c.args.c.now in
    let singles : c.compose.result ≡ composition m (2 ^ c.args.r) (2 ^ c.args.s) =
    c.compose.ensures.value ∙ ap (λ x. composition m x c.single-2.result) c.single.ensures
    ∙ ap (composition m (2 ^ c.args.r)) c.single-2.ensures in
    singles ∙ composition-single m c.args.r c.args.s c.lawful.ensures.table c.requires.first c.requires.second
