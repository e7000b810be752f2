-- Over a straight class the least base relations are a scenario that has the base relation, and a label is held with them.
use Rattle.std.proofs.Common.{ap, ◌∙◌}
use Rattle.network_words.specs.Network.{IsNetwork}
use Rattle.split_search.specs.Straight.{IsClosedOver}
use Rattle.split_search.proofs.EarlyEnds.{straight_yes}
use Rattle.split_search.proofs.Networks.{closure-network}
use Rattle.split_search.proofs.SetEdges.{scenario-refines, set_to-network}
use Rattle.split_search.proofs.Straight.{least_scenario}
use Rattle.minimal_net.specs.Labels.{set_to, label_of}
use Rattle.minimal_net.specs.Laws.{StraightHasAt, StraightIsHeld}
use Rattle.minimal_net.proofs.SetEdges.{HasAt-from_set}

pub straight_has : StraightHasAt
straight_has m n class words e base closure relations straight net below is members least =
    let met = set_to-network m n words e base net below in
    let own : IsNetwork m n closure = closure-network m n (set_to words e base) closure met is in
    let over : IsClosedOver m n class closure = record { is_network = own; closed = is.closed; members = members } in
    HasAt-from_set m n words e base relations net below
    (scenario-refines m n closure (set_to words e base) relations is.within
    (least_scenario m n class closure relations straight over least))

pub straight_held : StraightIsHeld
straight_held m n class budget words e base closure rs label calculus own straight net below is members least few l =
    let set = set_to words e base in
    let of_set = set_to-network m n words e base net below in
    let is_yes = straight_yes m n class budget set closure rs l.verdict calculus own straight of_set is members in
    let found = is_yes least few l.is_verdict in
    l.is ∙ ap label_of found.1
