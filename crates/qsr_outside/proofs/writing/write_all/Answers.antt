use Rattle.std.proofs.Common.{arith, length-drop, length-take}
use Rattle.qsr_outside.proofs.SoFar.{wrote_more}
use Rattle.qsr_outside.proofs.writing.write_all.Goals as goal

pub loop-written-preserved : goal.loop-written-preserved
loop-written-preserved g c =
    wrote_more _ _ _ _ _ _ _ _ _ c.loop-written.invariant
    (omega (arith, simp (length-drop, length-take) at c.in-Ok.ensures.within))
    c.in-Ok.ensures.takes c.in-Ok.ensures.ok_is_no_fault
