use Rattle.std.proofs.Common.{◌≡◌, take}
use Rattle.session_versions.specs.HeldFacts.{facts_of}
use Rattle.session_versions.proofs.held.facts_alone.Given as goal

abbrev pub invariant-loop-held : goal.invariant-loop-held
invariant-loop-held l = l.facts.items ≡ facts_of (take l.held-index l.helds)
