use Rattle.std.proofs.Common.{subst, sym, arith, ◌+◌}
use Rattle.de9im.specs.Scans.{IsEdgeUnderWay}
use Rattle.de9im.proofs.Notes.{edge_step, edge_skip}
use Rattle.de9im.proofs.BlockSkips.{block_first}
use Rattle.poly_exact.proofs.Blocks.{end_block}
use Rattle.de9im.proofs.scans.scan_block.Goals as goal
use Rattle.de9im.proofs.scans.scan_block.Goals.{then-not-are_apart, else-not-are_apart}

pub loop-f-init : goal.loop-f-init
loop-f-init c = block_first c.args.start c.args.a.vertices.now c.args.b.vertices.now c.args.e _ c.requires.sound c.requires.done

pub loop-f-preserved : goal.loop-f-preserved
loop-f-preserved c =
    let vs = c.args.a.vertices.now in let ws = c.args.b.vertices.now in let west = c.args.a.west.now in let other = c.args.b.west.now in
    let one = c.requires.one.ring in let two = c.requires.two.ring in let e = c.args.e in let f = c.loop-f.f in
    let below = c.requires.below in
    let n = c.next_index.result in let m = c.next_index-in-loop-f.result in
    let stop = c.block_stop-f-end.ensures in
    elim c.if-not-are_apart.branch [
      | then-not-are_apart w ↦ subst (λ g. IsEdgeUnderWay c.args.start g vs ws e (f + 1)) (sym w.found-is)
          (edge_step vs ws west other one two e f n m below (omega arith) c.next_index.ensures.following c.next_index-in-loop-f.ensures.following c.args.start c.loop-f.found w.note-found.result w.meet.result w.is_level.result
          w.meet.ensures w.is_level.ensures w.note-found.ensures c.loop-f.invariant)
      | else-not-are_apart w ↦ subst (λ g. IsEdgeUnderWay c.args.start g vs ws e (f + 1)) (sym w.found-is)
          (edge_skip vs ws west other one two e f n m below (omega arith) c.next_index.ensures.following c.next_index-in-loop-f.ensures.following c.args.start c.loop-f.found (c.are_apart.ensures w.if-not-are_apart.false) c.loop-f.invariant)
    ]

pub returns : goal.returns
returns c =
    let ws = c.args.b.vertices.now in
    let stop = c.block_stop-f-end.ensures in
    end_block ws (λ k. IsEdgeUnderWay c.args.start c.loop-f.found c.args.a.vertices.now ws c.args.e k) c.args.block c.loop-f.f c.requires.block (omega arith) (omega arith) c.loop-f.invariant
