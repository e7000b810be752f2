use Rattle.std.proofs.Common.{ℕ, List, ◌++◌}
use Rattle.tract_classes.specs.Class.{HasBasesOf}
use Rattle.tract_classes.specs.Parts.{AreParts}
use Rattle.tract_classes.proofs.partition.parts.Given as goal

-- the set that is left becomes a lesser number
abbrev pub decreases-loop-rest : goal.decreases-loop-rest
decreases-loop-rest l = l.rest

abbrev pub invariant-loop-rest : goal.invariant-loop-rest
invariant-loop-rest l = record {
  bases : HasBasesOf l.class l.rest;
  parts : (others : List ℕ) → AreParts l.class l.rest others → AreParts l.class l.fn.rel (l.parts.items ++ others);
}
