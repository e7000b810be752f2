use Rattle.std.proofs.Common.{take}
use Rattle.session_versions.specs.Versions.{AreProper}
use Rattle.tests_of_versions.proofs.versions.are_proper.Given as goal

abbrev pub invariant-loop-held : goal.invariant-loop-held
invariant-loop-held l = AreProper l.c.algebra 2 (take l.held-index l.helds)
