use Rattle.edge_table.specs.Opening.{IsPassOf}
use Rattle.tests_of_edge_words.proofs.edge_words.state_all.Given as goal

abbrev pub invariant-loop-fact : goal.invariant-loop-fact
invariant-loop-fact l = IsPassOf l.table l.pass
