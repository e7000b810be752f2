use Rattle.std.proofs.Common.{rules}
use Rattle.calculus_builtin.specs.Rcc8.{rcc8_table}
use Rattle.calculus_builtin.proofs.Rcc8Laws.{rcc8_lawful}
use Rattle.calculus_builtin.proofs.regions.rcc8.Goals as goal

pub constant_calculus-requires : goal.constant_calculus-requires
unfolding rcc8_table
constant_calculus-requires c = rcc8_lawful

pub returns : goal.returns
unfolding rcc8_table
returns c = search rules
