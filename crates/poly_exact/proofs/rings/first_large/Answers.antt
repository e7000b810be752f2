use Rattle.poly_exact.proofs.Built.{small_none, small_more, small_end, small_of, large_of}
use Rattle.poly_exact.proofs.rings.first_large.Goals as goal

pub loop-k-init : goal.loop-k-init
loop-k-init c = small_none c.args.vs.now

pub returns-then-not-is_small-clause-some : goal.returns-then-not-is_small-clause-some
returns-then-not-is_small-clause-some c = record { below = c.loop-k-test.true; before = c.loop-k.invariant; large = large_of _ _ c.is_small.ensures c.if-not-is_small.true }

pub loop-k-preserved : goal.loop-k-preserved
loop-k-preserved c = small_more c.args.vs.now c.loop-k.k (small_of _ _ c.is_small.ensures c.if-not-is_small.false) c.loop-k.invariant

pub returns-clause-none : goal.returns-clause-none
returns-clause-none c = small_end c.args.vs.now c.loop-k.k c.loop-k-test.false c.loop-k.invariant
