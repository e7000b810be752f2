use Rattle.std.proofs.Common.{◌∙◌}
use Rattle.std.specs.Int.{int_min, int_max}
use Rattle.poly_exact.proofs.Judged.{back, read_x, read_y}
use Rattle.poly_exact.proofs.rects.grow.Goals as goal

pub returns : goal.returns
returns c =
    let a = c.args in let r = c.requires in
    let lx = back _ _ c.min.type_inv c.min.ensures.value ∙ (λ i. int_min (read_x a.r.low r.low i) (read_x a.p r.point i)) in
    let ly = back _ _ c.min-2.type_inv c.min-2.ensures.value ∙ (λ i. int_min (read_y a.r.low r.low i) (read_y a.p r.point i)) in
    let hx = back _ _ c.max.type_inv c.max.ensures.value ∙ (λ i. int_max (read_x a.r.high r.high i) (read_x a.p r.point i)) in
    let hy = back _ _ c.max-2.type_inv c.max-2.ensures.value ∙ (λ i. int_max (read_y a.r.high r.high i) (read_y a.p r.point i)) in
    λ i. record { low = record { x = lx i; y = ly i }; high = record { x = hx i; y = hy i } }
