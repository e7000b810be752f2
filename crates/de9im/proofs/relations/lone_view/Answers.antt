use Rattle.poly_exact.specs.Rings.{vertex}
use Rattle.poly_exact.proofs.Sums.{read_twice, twice_spot}
use Rattle.de9im.proofs.Gathers.{lone_boundary, some_of}
use Rattle.de9im.proofs.relations.lone_view.Goals as goal

pub locate-l-requires-clause-point : goal.locate-l-requires-clause-point
locate-l-requires-clause-point c =
    let s = c.requires.one.ring.small.each 0 (some_of c.args.a.vertices.now c.requires.one.ring.few) in
    twice_spot (vertex c.args.a.vertices.now 0) _ _ s (read_twice _ s.left s.right) (read_twice _ s.low s.high)

pub returns : goal.returns
returns c =
    let h = some_of c.args.a.vertices.now c.requires.one.ring.few in
    let s = c.requires.one.ring.small.each 0 h in
    lone_boundary c.args.a.vertices.now c.args.b.vertices.now h c.requires.apart _ (read_twice _ s.left s.right) (read_twice _ s.low s.high) c.locate-l.result c.see.result c.see.ensures c.locate-l.ensures
