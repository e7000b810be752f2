use Rattle.poly_exact.specs.Rings.{vertex}
use Rattle.poly_exact.proofs.Sums.{read_spot, small_spot}
use Rattle.poly_exact.proofs.Checked.{west_is}
use Rattle.poly_exact.proofs.checks.is_west.Goals as goal

pub is_odd-requires-clause-point : goal.is_odd-requires-clause-point
is_odd-requires-clause-point c =
    let vs = c.args.vs.now in
    let s = c.requires.vertices.each c.args.e c.requires.below in let t = c.requires.vertices.each c.next_index.result c.next_index.ensures.below in
    small_spot (vertex vs c.args.e) (vertex vs c.next_index.result) _ _ s t (read_spot _ _ s.left s.right t.left t.right) (read_spot _ _ s.low s.high t.low t.high)

pub returns : goal.returns
returns c =
    let vs = c.args.vs.now in
    let s = c.requires.vertices.each c.args.e c.requires.below in let t = c.requires.vertices.each c.next_index.result c.next_index.ensures.below in
    west_is vs c.args.e c.next_index.result _ c.is_odd.result c.requires.simple c.requires.below c.next_index.ensures.following (read_spot _ _ s.left s.right t.left t.right) (read_spot _ _ s.low s.high t.low t.high) c.is_odd.ensures
