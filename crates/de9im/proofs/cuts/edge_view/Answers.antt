use Rattle.de9im.proofs.Asides.{off_sight}
use Rattle.de9im.proofs.cuts.edge_view.Goals as goal

pub returns-then-is_off : goal.returns-then-is_off
returns-then-is_off c = off_sight c.args.a c.args.b c.args.ring.vertices.now c.args.ring.rect c.requires.ring.covers (c.is_off.ensures c.if-is_off.true)
