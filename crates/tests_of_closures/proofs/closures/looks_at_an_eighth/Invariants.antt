use Rattle.slice_copy.specs.Copies.{IsSettledCopy}
use Rattle.tests_of_closures.proofs.closures.looks_at_an_eighth.Given as goal

abbrev pub invariant-loop : goal.invariant-loop
invariant-loop g l = IsSettledCopy l.c.algebra l.copy
