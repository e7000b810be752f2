use Rattle.std.proofs.Common.{◌≡◌, drop}
use Rattle.closure_seq.specs.Levels.{restored}
use Rattle.closure_seq.proofs.levels.restore.Given as goal

abbrev pub invariant-loop-k : goal.invariant-loop-k
invariant-loop-k l = l.sets.items ≡ restored l.initial.sets.items (drop l.k l.changes)
