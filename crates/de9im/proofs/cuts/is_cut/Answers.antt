use Rattle.poly_exact.proofs.Judged.{back}
use Rattle.poly_exact.proofs.Lines.{less_no}
use Rattle.de9im.proofs.Sights.{cut_test, zero_bits}
use Rattle.de9im.proofs.cuts.is_cut.Goals as goal

pub returns : goal.returns
returns c = cut_test c.args.a c.args.b c.args.c c.turn_at.result _ _ c.requires.third c.turn_at.ensures (zero_bits _ c.turn_at.type_inv c.if-turn_at-ne0.false)
    (back _ _ c.reach_at-r.type_inv c.reach_at-r.ensures) (less_no _ _ c.if-r-lt0.false) (back _ _ c.reach_at.type_inv c.reach_at.ensures)
