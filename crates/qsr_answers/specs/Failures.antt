-- The number and the place with which a certificate isn't accepted. Out of memory has none.
use Rattle.std.specs.Prelude.{ℕ, Option, None, Some}
use Rattle.scenario.specs.declared.checking.At.{At}
use Rattle.scenario.specs.declared.checking.At.TheVariants as scenario
use Rattle.refutation.specs.declared.fault.TreeFault.{TreeFault}
use Rattle.refutation.specs.declared.fault.TreeFault.TheVariants as tree
use Rattle.qsr_inputs.specs.Numbers.{no_place, place_of_one, place_of_two, place_of_three}
use Rattle.qsr_inputs.specs.declared.statuses.Place.{Place}

-- it is of another network: of so many nodes over these base relations
abbrev pub other_network : ℕ × Place
other_network = (27, no_place)

-- its list of base relations is no scenario: an edge, or three nodes
abbrev pub scenario_refusal : At → ℕ × Place
scenario_refusal (scenario.Outside i j) = (25, place_of_two i j)
scenario_refusal (scenario.Triple i j k) = (26, place_of_three i j k)
scenario_refusal scenario.Shape = (27, no_place)

-- its tree doesn't refute: a node, or a step of a node
abbrev pub tree_refusal : TreeFault → Option (ℕ × Place)
tree_refusal (tree.Uncovered node) = Some (28, place_of_one node)
tree_refusal (tree.NotEmpty node) = Some (29, place_of_one node)
tree_refusal (tree.BadTree node) = Some (30, place_of_one node)
tree_refusal (tree.BadStep node step) = Some (51, place_of_two node step)
tree_refusal tree.Memory = None
