use Rattle.std.proofs.Common.{◌≡◌, subst}
use Rattle.poly_exact.specs.declared.points.Point.{Point}
use Rattle.de9im.specs.declared.matrices.Matrix.{Matrix}
use Rattle.de9im.specs.Matrices.{IsMatrix}
use Rattle.std.proofs.Common.{List}
use Rattle.de9im.proofs.Apartness.{apart_is}
use Rattle.de9im.proofs.relations.matrix.Goals as goal

IsMatrix-same : (m : Matrix) (vs ws v w : List Point) → v ≡ vs → w ≡ ws → IsMatrix m v w → IsMatrix m vs ws
IsMatrix-same m vs ws v w e f h = subst (λ x. IsMatrix m vs x) f (subst (λ x. IsMatrix m x w) e h)

pub returns-then-are_rects_apart : goal.returns-then-are_rects_apart
returns-then-are_rects_apart c =
    let x = c.outline-one.ensures in let y = c.outline-two.ensures in
    let one = x.outline in let two = y.outline in
    IsMatrix-same _ c.args.a.now c.args.b.now _ _ x.vertices y.vertices
    (apart_is _ _ c.outline-one.result.rect c.outline-two.result.rect one.ring.few two.ring.few one.ring.simple two.ring.simple one.covers two.covers (c.are_rects_apart.ensures c.if-are_rects_apart.true))

pub returns-else-are_rects_apart : goal.returns-else-are_rects_apart
returns-else-are_rects_apart c = IsMatrix-same c.relate.result c.args.a.now c.args.b.now _ _ c.outline-one.ensures.vertices c.outline-two.ensures.vertices c.relate.ensures
