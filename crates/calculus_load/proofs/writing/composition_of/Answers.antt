use Rattle.std.proofs.Common.{◌^◌, ◌∙◌, ap}
use Rattle.calculus_table.specs.Composition.{composition}
use Rattle.calculus_table.proofs.Singles.{composition-single}
use Rattle.calculus_load.proofs.writing.composition_of.Goals as goal

pub returns : goal.returns
returns c =
    let m = c.args.c.now.algebra in
    c.compose.ensures.value ∙ ap (λ a. composition m a c.single-2.result) c.single.ensures ∙ ap (composition m (2 ^ c.args.r)) c.single-2.ensures
    ∙ composition-single m c.args.r c.args.s c.lawful.ensures.table c.requires.first c.requires.second
