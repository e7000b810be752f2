use Rattle.std.proofs.lemmas.Result.{IfOk-weaker}
use Rattle.geo_sound.proofs.Drawings.{base-of_edge}
use Rattle.geo_sound.proofs.bases.base_at.Goals as goal

pub returns : goal.returns
returns c =
    let ends = c.ends_of-ends.result in
    let first = c.index-polygons-ends in
    let second = c.index-polygons-ends-2 in
    IfOk-weaker c.base_of.result _ _ (λ base is. base-of_edge c.args.polygons.now c.args.edge ends.first ends.second
    first.result second.result base c.ends_of-ends.ensures first.is second.is is) c.base_of.ensures
