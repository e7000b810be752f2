use Rattle.std.proofs.Common.{subst, sym, ◌+◌}
use Rattle.poly_exact.specs.Rects.{block_start}
use Rattle.de9im.specs.Cuts.{IsNextTo}
use Rattle.de9im.proofs.Sights.{next_first}
use Rattle.de9im.proofs.BlockSkips.{next_skip_block}
use Rattle.poly_exact.proofs.Blocks.{first_block, in_block, after_block, last_block}
use Rattle.poly_exact.proofs.Rays.{block_below}
use Rattle.de9im.proofs.cuts.next_cut.Goals as goal
use Rattle.de9im.proofs.cuts.next_cut.Goals.{then-not-is_off, else-not-is_off}

pub next_in_block-best-requires-clause-block : goal.next_in_block-best-requires-clause-block
next_in_block-best-requires-clause-block c = block_below c.args.ring.vertices.now c.args.ring.blocks.now c.loop-block.block c.requires.ring.prepared c.loop-block-test.true

pub next_in_block-best-requires-clause-before : goal.next_in_block-best-requires-clause-before
next_in_block-best-requires-clause-before c =
    let ws = c.args.ring.vertices.now in
    in_block ws (λ k. IsNextTo c.loop-block.best c.args.a c.args.b c.args.from ws k) c.loop-block.block (block_below ws c.args.ring.blocks.now c.loop-block.block c.requires.ring.prepared c.loop-block-test.true) c.loop-block.invariant

pub loop-block-init : goal.loop-block-init
loop-block-init c =
    let ws = c.args.ring.vertices.now in
    first_block ws (λ k. IsNextTo c.args.b c.args.a c.args.b c.args.from ws k) (next_first c.args.a c.args.b c.args.from ws c.requires.second c.requires.cut)

pub loop-block-preserved : goal.loop-block-preserved
loop-block-preserved c =
    let a = c.args in let ws = a.ring.vertices.now in let g = c.loop-block.block in
    elim c.if-not-is_off.branch [
      | then-not-is_off w ↦ subst (λ d. IsNextTo d a.a a.b a.from ws (block_start ws (g + 1))) (sym w.best-is) (after_block ws (λ k. IsNextTo w.next_in_block-best.result a.a a.b a.from ws k) g w.next_in_block-best.ensures)
      | else-not-is_off w ↦ subst (λ d. IsNextTo d a.a a.b a.from ws (block_start ws (g + 1))) (sym w.best-is)
          (next_skip_block a.a a.b c.requires.one a.from c.loop-block.best ws a.ring.blocks.now g c.requires.ring.prepared c.loop-block-test.true c.requires.cut (c.is_off.ensures w.if-not-is_off.false) c.loop-block.invariant)
    ]

pub returns : goal.returns
returns c =
    let ws = c.args.ring.vertices.now in
    last_block ws (λ k. IsNextTo c.loop-block.best c.args.a c.args.b c.args.from ws k) _ c.loop-block.block c.requires.ring.prepared.enough c.loop-block-test.false c.loop-block.invariant
