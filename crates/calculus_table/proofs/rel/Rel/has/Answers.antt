use Rattle.std.proofs.Common.{◌≡◌, arith}
use Rattle.std.specs.Int.{bit_at}
use Rattle.std.proofs.lemmas.Bool.{ltb-true}
use Rattle.std.proofs.lemmas.Nat.Bits.{bit_at_above}
use Rattle.calculus_table.proofs.rel.Rel.has.Goals as goal

pub returns-else-r-lt64 : goal.returns-else-r-lt64
returns-else-r-lt64 c =
    let none : bit_at c.self.inside.word c.args.r ≡ 0 = bit_at_above c.self.inside.word 64 c.args.r c.self.invariant c.if-r-lt64.false in
    rw (← c.self.view_is) (λ t. absurd (omega (arith, ltb-true _ _ t)), λ p. absurd (omega arith))
