use Rattle.std.proofs.Common.{subst, sym, arith, ◌+◌}
use Rattle.poly_exact.specs.Small.{place}
use Rattle.poly_exact.specs.Checks.{IsParity}
use Rattle.poly_exact.proofs.Checked.{parity_left, parity_over, parity_past}
use Rattle.poly_exact.proofs.Blocks.{end_block}
use Rattle.poly_exact.proofs.checks.is_odd_after.Goals as goal
use Rattle.poly_exact.proofs.checks.is_odd_after.Goals.{in-Crosses, in-On, in-Misses}

pub loop-k-preserved : goal.loop-k-preserved
loop-k-preserved c =
    let vs = c.args.vs.now in let p = place c.args.p in let k = c.loop-k.k in
    elim c.match-cast_ray.branch [
      | in-Crosses w ↦ subst (IsParity vs p (k + 1)) (sym w.odd-is) (parity_left vs p k c.next_index.result c.loop-k.odd c.next_index.ensures.following w.in-Crosses.ensures c.loop-k.invariant)
      | in-On w ↦ subst (IsParity vs p (k + 1)) (sym w.odd-is) (parity_over vs p k c.next_index.result c.loop-k.odd c.next_index.ensures.following w.in-On.ensures c.loop-k.invariant)
      | in-Misses w ↦ subst (IsParity vs p (k + 1)) (sym w.odd-is) (parity_past vs p k c.next_index.result c.loop-k.odd c.next_index.ensures.following w.in-Misses.ensures c.loop-k.invariant)
    ]

pub returns : goal.returns
returns c =
    let vs = c.args.vs.now in
    let stop = c.block_stop-k-end.ensures in
    end_block vs (λ k. IsParity vs (place c.args.p) k c.loop-k.odd) c.args.b c.loop-k.k c.requires.block (omega arith) (omega arith) c.loop-k.invariant
