use Rattle.std.proofs.Common.{arith}
use Rattle.calculus_table.proofs.Sets.{IsWithin-meet_r}
use Rattle.compose_fast.proofs.Parts.{full-lt}
use Rattle.stepped_networks.proofs.compositions.converse_entry.Goals as goal

pub converse-requires : goal.converse-requires
converse-requires c = rw c.set_of_byte.ensures (IsWithin-meet_r _ _)

pub overflow_cast-result : goal.overflow_cast-result
overflow_cast-result c = rw c.word.ensures (omega (arith, full-lt c.args.c.now c.converse.result 8 c.converse.ensures.within c.requires.few))
