use Rattle.std.proofs.Common.{◌+◌, sym, subst, arith}
use Rattle.poly_exact.proofs.Judged.{passed_crossing, passed_miss}
use Rattle.poly_exact.proofs.Blocks.{end_block}
use Rattle.poly_exact.specs.Small.{place}
use Rattle.poly_exact.specs.Located.{IsPassedBy}
use Rattle.poly_exact.proofs.locations.cast_block.Goals as goal
use Rattle.poly_exact.proofs.locations.cast_block.Goals.{in-Crosses, in-Misses}

pub loop-k-preserved : goal.loop-k-preserved
loop-k-preserved c =
    let vs = c.args.vs.now in
    let k = c.loop-k.k in
    let p = place c.args.p in
    elim c.match-cast_ray.branch [
      | in-Crosses w ↦ subst (IsPassedBy vs p (k + 1)) (sym w.odd-is) (passed_crossing vs p k c.next_index.result c.loop-k.odd c.next_index.ensures.following c.loop-k.invariant w.in-Crosses.ensures)
      | in-Misses w ↦ subst (IsPassedBy vs p (k + 1)) (sym w.odd-is) (passed_miss vs p k c.next_index.result c.loop-k.odd c.next_index.ensures.following c.loop-k.invariant w.in-Misses.ensures)
    ]

pub returns-clause-some : goal.returns-clause-some
returns-clause-some c =
    let vs = c.args.vs.now in let b = c.args.b in let p = place c.args.p in
    let stop = c.block_stop-k-end.ensures in
    let below = c.requires.block in
    end_block vs (λ k. IsPassedBy vs p k c.loop-k.odd) b c.loop-k.k below (omega arith) (omega arith) c.loop-k.invariant
