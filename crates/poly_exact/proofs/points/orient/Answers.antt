use Rattle.poly_exact.proofs.Sums.{read_orient, sign_negative, sign_positive, sign_zero, back_negative, back_positive, back_zero}
use Rattle.poly_exact.proofs.points.orient.Goals as goal
use Rattle.std.proofs.Common.{sym}

pub returns-then-t-lt0 : goal.returns-then-t-lt0
returns-then-t-lt0 c = sym (sign_negative _ c.products-t.result (read_orient c.args.a c.args.b c.args.c _ c.requires.first c.requires.second c.requires.third c.products-t.ensures) (back_negative _ c.products-t.type_inv c.if-t-lt0.true))

pub returns-then-t-gt0 : goal.returns-then-t-gt0
returns-then-t-gt0 c = sym (sign_positive _ c.products-t.result (read_orient c.args.a c.args.b c.args.c _ c.requires.first c.requires.second c.requires.third c.products-t.ensures) (back_positive _ c.products-t.type_inv c.if-t-gt0.true))

pub returns-else-t-gt0 : goal.returns-else-t-gt0
returns-else-t-gt0 c = sym (sign_zero _ c.products-t.result (read_orient c.args.a c.args.b c.args.c _ c.requires.first c.requires.second c.requires.third c.products-t.ensures) (back_zero _ c.products-t.type_inv c.if-t-lt0.false c.if-t-gt0.false))
