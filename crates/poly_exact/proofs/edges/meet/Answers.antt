use Rattle.poly_exact.proofs.Meets.{alike_apart, AreApart-swapped, parted_cross, one_touch, DoTouch-swapped, zero_not_alike, parted_not_alike, line_not_alike, line_parted}
use Rattle.poly_exact.proofs.edges.meet.Goals as goal

pub returns-in-Same : goal.returns-in-Same
returns-in-Same c = alike_apart _ _ _ _ c.requires.other c.in-Same.ensures

pub returns-in-Same-sides_of : goal.returns-in-Same-sides_of
returns-in-Same-sides_of c = AreApart-swapped _ _ _ _ (alike_apart _ _ _ _ c.requires.one c.in-Same-sides_of.ensures)

pub returns-in-Parted-sides_of : goal.returns-in-Parted-sides_of
returns-in-Parted-sides_of c = one_touch _ _ _ _ c.in-Touched.ensures (parted_not_alike _ _ c.in-Parted-sides_of.ensures)

pub returns-in-Touched-sides_of : goal.returns-in-Touched-sides_of
returns-in-Touched-sides_of c = one_touch _ _ _ _ c.in-Touched.ensures (zero_not_alike _ _ c.in-Touched-sides_of.ensures)

pub returns-in-Line-sides_of : goal.returns-in-Line-sides_of
returns-in-Line-sides_of c = one_touch _ _ _ _ c.in-Touched.ensures (line_not_alike _ _ c.in-Line-sides_of.ensures)

pub returns-in-Same-sides_of-2 : goal.returns-in-Same-sides_of-2
returns-in-Same-sides_of-2 c = AreApart-swapped _ _ _ _ (alike_apart _ _ _ _ c.requires.one c.in-Same-sides_of-2.ensures)

pub returns-in-Parted-sides_of-2 : goal.returns-in-Parted-sides_of-2
returns-in-Parted-sides_of-2 c = parted_cross _ _ _ _ c.requires.one c.requires.other c.in-Parted-sides_of-2.ensures c.in-Parted.ensures

pub returns-in-Touched-sides_of-2 : goal.returns-in-Touched-sides_of-2
returns-in-Touched-sides_of-2 c = DoTouch-swapped _ _ _ _ (one_touch _ _ _ _ c.in-Touched-sides_of-2.ensures (parted_not_alike _ _ c.in-Parted.ensures))

pub returns-in-Line-sides_of-2 : goal.returns-in-Line-sides_of-2
returns-in-Line-sides_of-2 c = absurd (line_parted c.args.a c.args.b c.args.c c.args.d c.in-Parted.ensures c.in-Line-sides_of-2.ensures)
