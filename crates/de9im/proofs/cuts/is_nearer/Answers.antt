use Rattle.poly_exact.proofs.Judged.{back}
use Rattle.de9im.proofs.Sights.{nearer_test, zero_bits, not_le}
use Rattle.de9im.proofs.cuts.is_nearer.Goals as goal

pub returns : goal.returns
returns c = nearer_test c.args.a c.args.b c.args.from c.args.best c.args.c c.turn_at.result _ _ _ c.turn_at.ensures (zero_bits _ c.turn_at.type_inv c.if-turn_at-ne0.false)
    (back _ _ c.reach_at-r.type_inv c.reach_at-r.ensures) (back _ _ c.reach_at.type_inv c.reach_at.ensures) (not_le _ _ c.if-r-reach_at.false) (back _ _ c.reach_at-2.type_inv c.reach_at-2.ensures)
