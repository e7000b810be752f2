use Rattle.de9im.specs.Cuts.{IsNextTo}
use Rattle.de9im.proofs.cuts.next_in_block.Given as goal

abbrev pub invariant-loop-k : goal.invariant-loop-k
invariant-loop-k l = IsNextTo l.best l.fn.a l.fn.b l.fn.from l.ws l.k
