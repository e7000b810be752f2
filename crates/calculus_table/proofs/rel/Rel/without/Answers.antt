use Rattle.std.proofs.Common.{arith}
use Rattle.calculus_table.specs.Rel.{Has}
use Rattle.calculus_table.proofs.Without.{single_word, IsWithout-xor}
use Rattle.calculus_table.proofs.rel.Rel.without.Goals as goal

pub invariant_of-result : goal.invariant_of-result
invariant_of-result c =
    let n = c.self.inside.word in
    let member : Has n c.args.r = rw c.self.view_is c.requires.member in
    let others = IsWithout-xor n c.args.r member in
    rw (single_word c.args.r c.requires.below) (omega (arith, others.less))

pub returns : goal.returns
returns c =
    let n = c.self.inside.word in
    let member : Has n c.args.r = rw c.self.view_is c.requires.member in
    rw (← c.self.view_is, single_word c.args.r c.requires.below) (IsWithout-xor n c.args.r member)
