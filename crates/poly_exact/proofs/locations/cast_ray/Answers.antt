use Rattle.std.proofs.Common.{subst, sym, ◌∙◌}
use lib.Signed.{lt_z}
use Rattle.poly_exact.specs.Small.{place}
use Rattle.poly_exact.specs.Located.{IsRayHit, judged}
use Rattle.poly_exact.proofs.Judged.{back, read_y, judged_spot}
use Rattle.poly_exact.proofs.locations.cast_ray.Goals as goal

pub returns : goal.returns
returns c =
    let t = back _ _ c.turn-t.type_inv c.turn-t.ensures in
    let f = back _ _ c.height-first.type_inv c.height-first.ensures in
    let s = back _ _ c.height-second.type_inv c.height-second.ensures in
    let a = read_y c.args.a c.requires.first in
    let b = read_y c.args.b c.requires.second in
    subst (λ r. IsRayHit r c.args.a c.args.b (place c.args.p))
    (sym (c.judge.ensures ∙ (λ i. judged (t i) (f i) (s i) (lt_z (a i) (b i)) (c.is_in_box.ensures i))))
    (judged_spot c.args.a c.args.b c.args.p)
