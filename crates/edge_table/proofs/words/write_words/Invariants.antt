use Rattle.std.specs.Slots.{slots_items}
use Rattle.edge_table.proofs.Places.{IsWritten}
use Rattle.edge_table.proofs.words.write_words.Given as goal

abbrev pub invariant-loop-edge : goal.invariant-loop-edge
invariant-loop-edge l = IsWritten l.fn.into l.into (slots_items l.fn.closed.words) l.edge
