use Rattle.std.proofs.Common.{arith}
use Rattle.calculus_table.proofs.Sets.{IsWithin-meet_r}
use Rattle.compose_fast.proofs.Parts.{full-lt}
use Rattle.stepped_networks.specs.Compositions.{pair_entry}
use Rattle.stepped_networks.proofs.compositions.pair_entry.Goals as goal

pub compose-requires-clause-first : goal.compose-requires-clause-first
compose-requires-clause-first c = rw c.set_at.ensures (IsWithin-meet_r _ _)

pub compose-requires-clause-second : goal.compose-requires-clause-second
compose-requires-clause-second c = rw c.set_of_byte.ensures (IsWithin-meet_r _ _)

pub overflow_cast-result : goal.overflow_cast-result
overflow_cast-result c = rw c.word.ensures (omega (arith, full-lt c.args.c.now c.compose.result 8 c.compose.ensures.within c.requires.few))

pub returns : goal.returns
unfolding pair_entry
returns c = rw c.word.ensures (rw (c.set_at.ensures, c.set_of_byte.ensures) at c.compose.ensures.value)
