use Rattle.de9im.specs.Cuts.{IsSightTo}
use Rattle.de9im.proofs.cuts.block_sight.Given as goal

abbrev pub invariant-loop-k : goal.invariant-loop-k
invariant-loop-k l = IsSightTo l.sight l.a l.b l.ws l.k
