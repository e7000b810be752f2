-- What contracts see of closed networks and of those that are worked step by step.
use Rattle.std.specs.Prelude.{true, reverse}
use Rattle.stepped_networks.specs.declared.networks.Worked.{Worked}
use Rattle.stepped_networks.specs.declared.networks.Worked.TheVariants.{Closed, Stepped}
use Rattle.stepped_networks.specs.Networks.{NetworkStack}

abbrev pub stack_of : Worked → NetworkStack
stack_of (Closed path) =
    record { algebra = path.algebra; nodes = path.nodes; is_closed = true; top = path.top; under = reverse path.below }
stack_of (Stepped stack) = stack
