use Rattle.poly_exact.proofs.Sums.{sum_fits, sum_read}
use Rattle.poly_exact.proofs.points.products.Goals as goal

pub overflow_add-result : goal.overflow_add-result
overflow_add-result c = sum_fits c.args.a c.args.b c.args.c c.args.d c.requires.first c.requires.second c.requires.third c.requires.fourth c.ranges.a c.ranges.b c.ranges.c c.ranges.d

pub returns : goal.returns
returns c = sum_read c.args.a c.args.b c.args.c c.args.d c.requires.first c.requires.second c.requires.third c.requires.fourth c.ranges.a c.ranges.b c.ranges.c c.ranges.d
