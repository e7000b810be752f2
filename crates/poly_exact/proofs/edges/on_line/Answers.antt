use Rattle.poly_exact.proofs.Judged.{back}
use Rattle.poly_exact.proofs.Lines.{line_up, line_down, less_yes, less_no}
use Rattle.poly_exact.proofs.edges.on_line.Goals as goal

pub returns-then-first-second : goal.returns-then-first-second
returns-then-first-second c =
    let a = c.args in let r = c.requires in
    line_up c.overlap.result a.a a.b a.c a.d _ _ _ r.one r.other r.flat_c r.flat_d
    (back _ _ c.reach_at-long.type_inv c.reach_at-long.ensures) (back _ _ c.reach_at-first.type_inv c.reach_at-first.ensures) (back _ _ c.reach_at-second.type_inv c.reach_at-second.ensures)
    (less_yes _ _ c.if-first-second.true) c.overlap.ensures

pub returns-else-first-second : goal.returns-else-first-second
returns-else-first-second c =
    let a = c.args in let r = c.requires in
    line_down c.overlap-else-first-second.result a.a a.b a.c a.d _ _ _ r.one r.other r.flat_c r.flat_d
    (back _ _ c.reach_at-long.type_inv c.reach_at-long.ensures) (back _ _ c.reach_at-first.type_inv c.reach_at-first.ensures) (back _ _ c.reach_at-second.type_inv c.reach_at-second.ensures)
    (less_no _ _ c.if-first-second.false) c.overlap-else-first-second.ensures
