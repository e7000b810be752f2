use lib.Bits.{or_lt}
use Rattle.calculus_table.proofs.rel.Rel.union.Goals as goal

pub invariant_of-result : goal.invariant_of-result
invariant_of-result c = or_lt 64 c.self.inside.word c.other.inside.word c.self.invariant c.other.invariant
