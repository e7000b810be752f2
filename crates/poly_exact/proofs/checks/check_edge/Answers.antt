use Rattle.poly_exact.specs.Checks.{AreGoodTo}
use Rattle.poly_exact.proofs.Blocks.{in_block, after_block, last_block}
use Rattle.poly_exact.proofs.BlockChecks.{good_start, good_skip}
use Rattle.poly_exact.proofs.Rays.{block_below}
use Rattle.poly_exact.proofs.checks.check_edge.Goals as goal
use Rattle.poly_exact.proofs.checks.check_edge.Goals.{then-not-is_off+in-Simple, else-not-is_off}

pub check_block-requires-clause-block : goal.check_block-requires-clause-block
check_block-requires-clause-block c = block_below c.args.vs.now c.args.blocks.now c.loop-b.b c.requires.blocks c.loop-b-test.true

pub check_block-requires-clause-before : goal.check_block-requires-clause-before
check_block-requires-clause-before c =
    let vs = c.args.vs.now in
    in_block vs (λ k. AreGoodTo vs c.args.e k) c.loop-b.b (block_below vs c.args.blocks.now c.loop-b.b c.requires.blocks c.loop-b-test.true) c.loop-b.invariant

pub loop-b-init : goal.loop-b-init
loop-b-init c = good_start c.args.vs.now c.args.e

pub loop-b-preserved : goal.loop-b-preserved
loop-b-preserved c =
    let vs = c.args.vs.now in let b = c.loop-b.b in
    elim c.if-not-is_off.branch [
      | then-not-is_off+in-Simple w ↦ after_block vs (λ k. AreGoodTo vs c.args.e k) b w.in-Simple.ensures
      | else-not-is_off w ↦ good_skip vs c.args.blocks.now c.args.e c.next_index.result b c.requires.blocks c.loop-b-test.true c.next_index.ensures.following (c.is_off.ensures w.if-not-is_off.false) c.loop-b.invariant
    ]

pub returns : goal.returns
returns c = let vs = c.args.vs.now in last_block vs (λ k. AreGoodTo vs c.args.e k) _ c.loop-b.b c.requires.blocks.enough c.loop-b-test.false c.loop-b.invariant
