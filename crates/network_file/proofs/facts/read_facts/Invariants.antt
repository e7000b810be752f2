use Rattle.std.proofs.Common.{List, length}
use Rattle.network_words.specs.declared.fact.Fact.{Fact}
use Rattle.network_file.proofs.FactLines.{FactsSoFar}
use Rattle.network_file.proofs.facts.read_facts.Given as goal

abbrev pub invariant-loop-line : goal.invariant-loop-line
invariant-loop-line l = (facts : List Fact) × FactsSoFar l.c l.fn.net l.net facts l.fn.lines l.lines

abbrev pub decreases-loop-line : goal.decreases-loop-line
decreases-loop-line l = length l.lines.lines
