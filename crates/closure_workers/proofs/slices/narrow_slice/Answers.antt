use Rattle.std.proofs.Common.{arith}
use Rattle.closure_workers.proofs.Looks.{Looks-none, Looks-then, Looks-weaken, below-more}
use Rattle.closure_workers.proofs.slices.narrow_slice.Goals as goal

pub loop-i-init : goal.loop-i-init
loop-i-init g c = record { looks = Looks-none c.requires.looking (λ i b. absurd (omega arith)) }

pub loop-i-preserved : goal.loop-i-preserved
loop-i-preserved g c = record {
  looks = Looks-then c.loop-i.invariant.looks c.narrow_row-less.ensures.looks (λ words h p. below-more _ c.loop-i.i h p);
}

pub returns : goal.returns
returns g c = record { looks = Looks-weaken c.loop-i.invariant.looks (λ words h i k a b. h i (omega arith) k a b) }
