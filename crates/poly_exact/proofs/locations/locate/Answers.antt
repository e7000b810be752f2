use Rattle.std.proofs.Common.{◌+◌, sym, subst, false}
use Rattle.poly_exact.specs.Small.{place}
use Rattle.poly_exact.specs.Located.{IsPassedBy}
use Rattle.poly_exact.specs.Rects.{block_start}
use Rattle.poly_exact.proofs.Judged.{passed_none}
use Rattle.poly_exact.proofs.Blocks.{first_block, in_block, after_block}
use Rattle.poly_exact.proofs.Rays.{passed_skip, passed_in, passed_out, block_below}
use Rattle.poly_exact.proofs.locations.locate.Goals as goal
use Rattle.poly_exact.proofs.locations.locate.Goals.{then-not-is_ray_off+in-Some, else-not-is_ray_off}

pub cast_block-requires-clause-block : goal.cast_block-requires-clause-block
cast_block-requires-clause-block c = block_below c.args.vs.now c.args.blocks.now c.loop-b.b c.requires.blocks c.loop-b-test.true

pub cast_block-requires-clause-before : goal.cast_block-requires-clause-before
cast_block-requires-clause-before c =
    let vs = c.args.vs.now in
    in_block vs (λ k. IsPassedBy vs (place c.args.p) k c.loop-b.odd) c.loop-b.b (block_below vs c.args.blocks.now c.loop-b.b c.requires.blocks c.loop-b-test.true) c.loop-b.invariant

pub loop-b-init : goal.loop-b-init
loop-b-init c = first_block c.args.vs.now (λ k. IsPassedBy c.args.vs.now (place c.args.p) k false) (passed_none c.args.vs.now (place c.args.p))

pub loop-b-preserved : goal.loop-b-preserved
loop-b-preserved c =
    let vs = c.args.vs.now in
    let p = place c.args.p in
    let b = c.loop-b.b in
    elim c.if-not-is_ray_off.branch [
      | then-not-is_ray_off+in-Some w ↦ subst (IsPassedBy vs p (block_start vs (b + 1))) (sym w.odd-is) (after_block vs (λ k. IsPassedBy vs p k w.in-Some.parity) b w.in-Some.ensures.some)
      | else-not-is_ray_off w ↦ subst (IsPassedBy vs p (block_start vs (b + 1))) (sym w.odd-is) (passed_skip vs c.args.blocks.now c.args.p b c.loop-b.odd c.requires.blocks c.loop-b-test.true (c.is_ray_off.ensures w.if-not-is_ray_off.false) c.loop-b.invariant)
    ]

pub returns-then-odd : goal.returns-then-odd
returns-then-odd c = passed_in c.args.vs.now c.args.blocks.now (place c.args.p) c.loop-b.b c.loop-b.odd c.requires.blocks c.loop-b-test.false c.if-odd.true c.loop-b.invariant

pub returns-else-odd : goal.returns-else-odd
returns-else-odd c = passed_out c.args.vs.now c.args.blocks.now (place c.args.p) c.loop-b.b c.loop-b.odd c.requires.blocks c.loop-b-test.false c.if-odd.false c.loop-b.invariant
