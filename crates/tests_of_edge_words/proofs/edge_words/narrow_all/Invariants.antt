use Rattle.std.proofs.Common.{◌≡◌}
use Rattle.edge_table.specs.Opening.{IsPassOf}
use Rattle.tests_of_edge_words.proofs.edge_words.narrow_all.Given as goal

abbrev pub invariant-loop-i : goal.invariant-loop-i
invariant-loop-i l = record { pass : IsPassOf l.table l.pass; weight : l.pass.actor.weight ≡ l.fn.pass.actor.weight }
