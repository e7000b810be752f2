use Rattle.std.proofs.Common.{subst, sym, arith, ◌+◌}
use Rattle.de9im.specs.Cuts.{IsSightTo}
use Rattle.de9im.proofs.Sights.{sight_step, sight_skip, no_of}
use Rattle.poly_exact.proofs.Blocks.{end_block}
use Rattle.de9im.proofs.cuts.block_sight.Goals as goal
use Rattle.de9im.proofs.cuts.block_sight.Goals.{then-is_cut, else-is_cut}

pub loop-k-preserved : goal.loop-k-preserved
loop-k-preserved c =
    let a = c.args in let ws = a.ring.vertices.now in let k = c.loop-k.k in
    elim c.if-is_cut.branch [
      | then-is_cut w ↦ subst (λ s. IsSightTo s a.a a.b ws (k + 1)) (sym w.sight-is) (sight_step a.a a.b ws c.loop-k.sight w.see-sight.result w.sample.result k w.see-sight.ensures w.sample.ensures c.loop-k.invariant)
      | else-is_cut w ↦ subst (λ s. IsSightTo s a.a a.b ws (k + 1)) (sym w.sight-is) (sight_skip a.a a.b ws c.loop-k.sight k (no_of _ _ c.is_cut.ensures w.if-is_cut.false) c.loop-k.invariant)
    ]

pub returns : goal.returns
returns c =
    let a = c.args in let ws = a.ring.vertices.now in
    let stop = c.block_stop-k-end.ensures in
    end_block ws (λ k. IsSightTo c.loop-k.sight a.a a.b ws k) a.block c.loop-k.k c.requires.block (omega arith) (omega arith) c.loop-k.invariant
