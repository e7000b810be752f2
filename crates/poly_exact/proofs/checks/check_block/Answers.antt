use Rattle.std.proofs.Common.{arith, ◌+◌}
use Rattle.poly_exact.specs.Checks.{AreGoodTo}
use Rattle.poly_exact.proofs.Checked.{good_more, good_of}
use Rattle.poly_exact.proofs.Blocks.{end_block}
use Rattle.poly_exact.proofs.BlockChecks.{good_before}
use Rattle.poly_exact.proofs.checks.check_block.Goals as goal
use Rattle.poly_exact.proofs.checks.check_block.Goals.{else-e-f-via-then-e-f+else-not-is_good_pair, else-e-f-via-else-e-f}

pub loop-f-preserved : goal.loop-f-preserved
loop-f-preserved c =
    let vs = c.args.vs.now in let e = c.args.e in let f = c.loop-f.f in
    elim c.else-e-f.branch [
      | else-e-f-via-then-e-f+else-not-is_good_pair w ↦ good_more vs e f (good_of vs e f _ w.is_good_pair.ensures w.if-not-is_good_pair.false) c.loop-f.invariant
      | else-e-f-via-else-e-f w ↦ (let l = w.if-e-f.false in good_before vs e (f + 1) (omega arith))
    ]

pub returns : goal.returns
returns c =
    let vs = c.args.vs.now in
    let stop = c.block_stop-f-end.ensures in
    end_block vs (λ k. AreGoodTo vs c.args.e k) c.args.b c.loop-f.f c.requires.block (omega arith) (omega arith) c.loop-f.invariant
