use Rattle.std.proofs.Common.{◌≡◌, drop}
use Rattle.network_words.specs.NetFault.{first_fault}
use Rattle.network_words.proofs.fact.first_fault.Given as goal

abbrev pub invariant-loop-at : goal.invariant-loop-at
invariant-loop-at l = first_fault l.nodes l.at (drop l.at l.facts) ≡ first_fault l.nodes 0 l.facts
