use Rattle.std.proofs.Common.{take}
use Rattle.tract_classes.specs.Kept.{AreRowsOf}
use Rattle.tract_classes.proofs.rows.rows_of.Given as goal

abbrev pub invariant-loop-word : goal.invariant-loop-word
invariant-loop-word l = AreRowsOf (take l.word-index l.sets) l.rows.items
