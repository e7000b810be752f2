use Rattle.poly_exact.proofs.Sums.{read_spot, small_spot, fits_spot}
use Rattle.de9im.proofs.Samples.{sample_is}
use Rattle.de9im.proofs.cuts.sample.Goals as goal

pub overflow_add-from : goal.overflow_add-from
overflow_add-from c = let s = c.requires.cut.small in let t = c.next_cut-end.ensures.small in fits_spot _ _ s.left s.right t.left t.right

pub overflow_add-from-2 : goal.overflow_add-from-2
overflow_add-from-2 c = let s = c.requires.cut.small in let t = c.next_cut-end.ensures.small in fits_spot _ _ s.low s.high t.low t.high

pub locate-requires-clause-point : goal.locate-requires-clause-point
locate-requires-clause-point c =
    let s = c.requires.cut.small in let t = c.next_cut-end.ensures.small in
    small_spot c.args.from c.next_cut-end.result _ _ s t (read_spot _ _ s.left s.right t.left t.right) (read_spot _ _ s.low s.high t.low t.high)

pub returns : goal.returns
returns c =
    let r = c.requires in let s = r.cut.small in let t = c.next_cut-end.ensures.small in
    sample_is c.args.a c.args.b c.args.from c.next_cut-end.result c.args.ring.vertices.now r.one r.ring.ring.simple r.cut c.next_cut-end.ensures r.uncrossed c.locate.result _
    (read_spot _ _ s.left s.right t.left t.right) (read_spot _ _ s.low s.high t.low t.high) c.locate.ensures
