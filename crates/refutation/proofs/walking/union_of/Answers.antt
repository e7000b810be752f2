use Rattle.std.proofs.Common.{◌<◌, ◌∙◌, length, arith}
use Rattle.std.proofs.lemmas.Grind.{get_or_default_zero}
use Rattle.refutation.proofs.UnionsOfParts.{union-more, union-end}
use Rattle.refutation.proofs.walking.union_of.Goals as goal

pub loop-part-preserved : goal.loop-part-preserved
loop-part-preserved c =
    let parts = c.args.parts.now in
    let k = c.loop-part.part-index in
    let part = c.part-item.result in
    let below : k < length parts = omega arith in
    rw c.union-all.ensures (union-more c.loop-part.all parts k part below (c.part-item.is ∙ get_or_default_zero parts k part below) ∙ c.loop-part.invariant)

pub returns : goal.returns
returns c = union-end c.loop-part.all c.args.parts.now c.loop-part.part-index (omega arith) ∙ c.loop-part.invariant
