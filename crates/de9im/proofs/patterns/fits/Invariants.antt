use Rattle.de9im.specs.Patterns.{MatchesTo}
use Rattle.de9im.proofs.patterns.fits.Given as goal

abbrev pub invariant-loop-k : goal.invariant-loop-k
invariant-loop-k l = MatchesTo l.wants l.entries l.k
