use Rattle.std.proofs.Common.{subst, sym, arith, length, ◌+◌}
use Rattle.poly_exact.specs.Rects.{block_start}
use Rattle.de9im.specs.Cuts.{IsSightTo}
use Rattle.de9im.proofs.Sights.{cut_first, sight_first, sight_end}
use Rattle.de9im.proofs.BlockSkips.{sight_skip_block}
use Rattle.poly_exact.proofs.Blocks.{first_block, in_block, after_block, last_block}
use Rattle.poly_exact.proofs.Rays.{block_below}
use Rattle.de9im.proofs.cuts.edge_sight.Goals as goal
use Rattle.de9im.proofs.cuts.edge_sight.Goals.{then-not-is_off, else-not-is_off}

pub sample-requires-clause-cut : goal.sample-requires-clause-cut
sample-requires-clause-cut c = cut_first c.args.a c.args.b c.args.ring.vertices.now c.requires.one c.requires.first

pub block_sight-sight-requires-clause-block : goal.block_sight-sight-requires-clause-block
block_sight-sight-requires-clause-block c = block_below c.args.ring.vertices.now c.args.ring.blocks.now c.loop-block.block c.requires.ring.prepared c.loop-block-test.true

pub block_sight-sight-requires-clause-before : goal.block_sight-sight-requires-clause-before
block_sight-sight-requires-clause-before c =
    let ws = c.args.ring.vertices.now in
    in_block ws (λ k. IsSightTo c.loop-block.sight c.args.a c.args.b ws k) c.loop-block.block (block_below ws c.args.ring.blocks.now c.loop-block.block c.requires.ring.prepared c.loop-block-test.true) c.loop-block.invariant

pub loop-block-init : goal.loop-block-init
loop-block-init c =
    let ws = c.args.ring.vertices.now in
    first_block ws (λ k. IsSightTo c.see-sight.result c.args.a c.args.b ws k) (sight_first c.args.a c.args.b ws c.see-sight.result c.sample.result c.see-sight.ensures c.sample.ensures)

pub loop-block-preserved : goal.loop-block-preserved
loop-block-preserved c =
    let a = c.args in let ws = a.ring.vertices.now in let g = c.loop-block.block in
    elim c.if-not-is_off.branch [
      | then-not-is_off w ↦ subst (λ s. IsSightTo s a.a a.b ws (block_start ws (g + 1))) (sym w.sight-is) (after_block ws (λ k. IsSightTo w.block_sight-sight.result a.a a.b ws k) g w.block_sight-sight.ensures)
      | else-not-is_off w ↦ subst (λ s. IsSightTo s a.a a.b ws (block_start ws (g + 1))) (sym w.sight-is)
          (sight_skip_block a.a a.b c.requires.one c.loop-block.sight ws a.ring.blocks.now g c.requires.ring.prepared c.loop-block-test.true (c.is_off.ensures w.if-not-is_off.false) c.loop-block.invariant)
    ]

pub returns : goal.returns
returns c =
    let a = c.args in let ws = a.ring.vertices.now in
    let n = c.loop-block.block in
    sight_end a.a a.b ws c.loop-block.sight (length ws) c.requires.one c.requires.first c.requires.ring.ring.small (omega arith) (omega arith)
    (last_block ws (λ k. IsSightTo c.loop-block.sight a.a a.b ws k) _ n c.requires.ring.prepared.enough c.loop-block-test.false c.loop-block.invariant)
