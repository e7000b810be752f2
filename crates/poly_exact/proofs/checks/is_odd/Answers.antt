use Rattle.std.proofs.Common.{subst, sym, false, ◌+◌}
use Rattle.poly_exact.specs.Small.{place}
use Rattle.poly_exact.specs.Checks.{IsParity}
use Rattle.poly_exact.specs.Rects.{block_start}
use Rattle.poly_exact.proofs.Checked.{parity_none}
use Rattle.poly_exact.proofs.Blocks.{first_block, in_block, after_block, last_block}
use Rattle.poly_exact.proofs.BlockChecks.{parity_skip}
use Rattle.poly_exact.proofs.Rays.{block_below}
use Rattle.poly_exact.proofs.checks.is_odd.Goals as goal
use Rattle.poly_exact.proofs.checks.is_odd.Goals.{then-not-is_ray_off, else-not-is_ray_off}

pub is_odd_after-odd-requires-clause-block : goal.is_odd_after-odd-requires-clause-block
is_odd_after-odd-requires-clause-block c = block_below c.args.vs.now c.args.blocks.now c.loop-b.b c.requires.blocks c.loop-b-test.true

pub is_odd_after-odd-requires-clause-before : goal.is_odd_after-odd-requires-clause-before
is_odd_after-odd-requires-clause-before c =
    let vs = c.args.vs.now in
    in_block vs (λ k. IsParity vs (place c.args.p) k c.loop-b.odd) c.loop-b.b (block_below vs c.args.blocks.now c.loop-b.b c.requires.blocks c.loop-b-test.true) c.loop-b.invariant

pub loop-b-init : goal.loop-b-init
loop-b-init c = first_block c.args.vs.now (λ k. IsParity c.args.vs.now (place c.args.p) k false) (parity_none c.args.vs.now (place c.args.p))

pub loop-b-preserved : goal.loop-b-preserved
loop-b-preserved c =
    let vs = c.args.vs.now in let p = place c.args.p in let b = c.loop-b.b in
    elim c.if-not-is_ray_off.branch [
      | then-not-is_ray_off w ↦ subst (IsParity vs p (block_start vs (b + 1))) (sym w.odd-is) (after_block vs (λ k. IsParity vs p k w.is_odd_after-odd.result) b w.is_odd_after-odd.ensures)
      | else-not-is_ray_off w ↦ subst (IsParity vs p (block_start vs (b + 1))) (sym w.odd-is) (parity_skip vs c.args.blocks.now c.args.p b c.loop-b.odd c.requires.blocks c.loop-b-test.true (c.is_ray_off.ensures w.if-not-is_ray_off.false) c.loop-b.invariant)
    ]

pub returns : goal.returns
returns c = let vs = c.args.vs.now in last_block vs (λ k. IsParity vs (place c.args.p) k c.loop-b.odd) _ c.loop-b.b c.requires.blocks.enough c.loop-b-test.false c.loop-b.invariant
