use Rattle.std.proofs.Common.{subst, sym, arith, ◌+◌, ◌<◌, length}
use Rattle.de9im.specs.Cuts.{IsNextTo}
use Rattle.de9im.proofs.Sights.{next_step, next_skip, no_of}
use Rattle.poly_exact.proofs.Blocks.{end_block}
use Rattle.de9im.proofs.cuts.next_in_block.Goals as goal
use Rattle.de9im.proofs.cuts.next_in_block.Goals.{then-is_nearer, else-is_nearer}

pub loop-k-preserved : goal.loop-k-preserved
loop-k-preserved c =
    let a = c.args in let ws = a.ring.vertices.now in let k = c.loop-k.k in
    let stop = c.block_stop-k-end.ensures in
    let below : k < length ws = omega arith in
    elim c.if-is_nearer.branch [
      | then-is_nearer w ↦ subst (λ d. IsNextTo d a.a a.b a.from ws (k + 1)) (sym w.best-is) (next_step a.a a.b a.from ws c.loop-k.best k (c.requires.ring.ring.small.each k below) (c.is_nearer.ensures.0 w.if-is_nearer.true) c.loop-k.invariant)
      | else-is_nearer w ↦ subst (λ d. IsNextTo d a.a a.b a.from ws (k + 1)) (sym w.best-is) (next_skip a.a a.b a.from ws c.loop-k.best k (no_of _ _ c.is_nearer.ensures w.if-is_nearer.false) c.loop-k.invariant)
    ]

pub returns : goal.returns
returns c =
    let a = c.args in let ws = a.ring.vertices.now in
    let stop = c.block_stop-k-end.ensures in
    end_block ws (λ k. IsNextTo c.loop-k.best a.a a.b a.from ws k) a.block c.loop-k.k c.requires.block (omega arith) (omega arith) c.loop-k.invariant
