use Rattle.std.proofs.Common.{subst, sym, ◌+◌}
use Rattle.poly_exact.specs.Rects.{block_start}
use Rattle.de9im.specs.Scans.{IsEdgeUnderWay, IsEdgeDone}
use Rattle.de9im.proofs.Notes.{edge_start}
use Rattle.de9im.proofs.BlockSkips.{block_joined, block_skip}
use Rattle.poly_exact.proofs.Blocks.{first_block, in_block, after_block, last_block}
use Rattle.poly_exact.proofs.Rays.{block_below}
use Rattle.de9im.proofs.scans.scan_edge.Goals as goal
use Rattle.de9im.proofs.scans.scan_edge.Goals.{then-not-is_off, else-not-is_off}

pub scan_block-found-requires-clause-block : goal.scan_block-found-requires-clause-block
scan_block-found-requires-clause-block c = block_below c.args.b.vertices.now c.args.b.blocks.now c.loop-block.block c.requires.two.prepared c.loop-block-test.true

pub scan_block-found-requires-clause-done : goal.scan_block-found-requires-clause-done
scan_block-found-requires-clause-done c =
    let ws = c.args.b.vertices.now in
    in_block ws (λ k. IsEdgeDone c.loop-block.found c.args.a.vertices.now ws c.args.e k) c.loop-block.block (block_below ws c.args.b.blocks.now c.loop-block.block c.requires.two.prepared c.loop-block-test.true) c.loop-block.invariant.done

pub loop-block-init : goal.loop-block-init
loop-block-init c =
    let vs = c.args.a.vertices.now in let ws = c.args.b.vertices.now in
    first_block ws (λ k. IsEdgeUnderWay c.args.start c.args.start vs ws c.args.e k) (edge_start c.args.start vs ws c.args.e c.requires.sound)

pub loop-block-preserved : goal.loop-block-preserved
loop-block-preserved c =
    let vs = c.args.a.vertices.now in let ws = c.args.b.vertices.now in let e = c.args.e in let b = c.loop-block.block in
    elim c.if-not-is_off.branch [
      | then-not-is_off w ↦ subst (λ g. IsEdgeUnderWay c.args.start g vs ws e (block_start ws (b + 1))) (sym w.found-is)
          (after_block ws (λ k. IsEdgeUnderWay c.args.start w.scan_block-found.result vs ws e k) b
          (block_joined c.args.start c.loop-block.found w.scan_block-found.result vs ws e _ c.loop-block.invariant.more w.scan_block-found.ensures))
      | else-not-is_off w ↦ subst (λ g. IsEdgeUnderWay c.args.start g vs ws e (block_start ws (b + 1))) (sym w.found-is)
          (block_skip vs ws c.args.a.west.now c.args.b.west.now c.args.b.blocks.now c.requires.one.ring c.requires.two.ring c.requires.two.prepared e c.next_index.result b c.requires.below c.next_index.ensures.following c.loop-block-test.true
          (c.is_off.ensures w.if-not-is_off.false) c.args.start c.loop-block.found c.loop-block.invariant)
    ]

pub returns-clause-sound : goal.returns-clause-sound
returns-clause-sound c = c.loop-block.invariant.sound

pub returns-clause-more : goal.returns-clause-more
returns-clause-more c = c.loop-block.invariant.more

pub returns-clause-done : goal.returns-clause-done
returns-clause-done c =
    let ws = c.args.b.vertices.now in
    last_block ws (λ k. IsEdgeDone c.loop-block.found c.args.a.vertices.now ws c.args.e k) _ c.loop-block.block c.requires.two.prepared.enough c.loop-block-test.false c.loop-block.invariant.done
